use Rattle.std.proofs.Common.{◌≡◌, true, Some, None, sym, ◌∙◌, ap, subst, ◌≤◌}
use Rattle.mux_frame.specs.declared.frame.TheConstants.{MAX_TAG}
use Rattle.translate_book.specs.declared.entry.Entry.{Entry}
use Rattle.translate_book.specs.Entries.{is_open}
use Rattle.translate_book.specs.Book.{entry_at, open_at}
use Rattle.server_session.specs.State.{State}
use Rattle.server_session.proofs.Books.{tag_at}
use Rattle.server_session.proofs.Naming.{opened}
use Rattle.server_session.proofs.Discarding.{discard_step, ignore_step, read_discard, read_reason, discard_no_dispatch}
use Rattle.server_session.proofs.session.ServerSession.discard.Goals.{After-into_why}
use Rattle.server_session.proofs.session.ServerSession.discard.Goals as goal

-- the dispatch that is open on the tag
module _ (c : After-into_why) where
  there : open_at c.discard_tag-tag.result c.self.inside.book.entries ≡ Some c.in-Some.seq
  there = sym c.at_tag.ensures ∙ c.in-Some.is

  found : (e : Entry) × (entry_at c.in-Some.seq c.self.inside.book.entries ≡ Some e) × (is_open e ≡ true) × (e.tag ≡ c.discard_tag-tag.result)
  found = opened c.discard_tag-tag.result 0 c.self.inside.book.entries c.self.inside.book.last c.in-Some.seq c.len-held.ensures.rising there

  kept_at : entry_at c.in-Some.seq c.args.self.now.book ≡ Some found.0
  kept_at = sym (ap (λ (s : State). entry_at c.in-Some.seq s.book) c.self.view_is) ∙ found.1

pub give_up-requires-clause-open : goal.give_up-requires-clause-open
give_up-requires-clause-open c = ((found c).0, kept_at c, (found c).2)

pub give_up-requires-clause-tag : goal.give_up-requires-clause-tag
give_up-requires-clause-tag c = subst (λ t. t ≤ MAX_TAG) (found c).3 (tag_at c.self.inside.book.entries c.in-Some.seq (found c).0 c.self.invariant.tags (found c).1)

pub returns-in_default : goal.returns-in_default
returns-in_default c = record {
  step = λ p b.
      let m = c.args.message in
      let d = read_discard m.frame m.content c.discard_tag-tag.result c.requires.read c.requires.kind c.discard_tag-tag.ensures in
      let none : open_at c.discard_tag-tag.result c.args.self.now.book ≡ None =
      sym (ap (λ (s : State). open_at c.discard_tag-tag.result s.book) c.self.view_is) ∙ sym c.at_tag.ensures ∙ c.in_default.is in
      ignore_step c.args.self.now p c.args.now m.frame c.discard_tag-tag.result d.0 _ b c.requires.open d.1
      (discard_no_dispatch m.frame m.content c.requires.spelled c.requires.kind) c.requires.room none
      (rw c.tag.ensures at c.write.ensures);
}

pub returns : goal.returns
returns c = record {
  step = λ p b.
      let m = c.args.message in
      let a = (goal.at.returns c).After-into_why in
      let e = found a in
      let on : open_at c.discard_tag-tag.result c.args.self.now.book ≡ Some c.in-Some.seq =
      sym (ap (λ (s : State). open_at c.discard_tag-tag.result s.book) c.self.view_is) ∙ there a in
      discard_step c.args.self.now p c.args.now m.frame c.discard_tag-tag.result c.into_why.result c.in-Some.seq e.0 b c.requires.open
      (read_reason m.frame m.content c.discard_tag-tag.result c.into_why.result c.requires.read c.requires.kind c.discard_tag-tag.ensures c.into_why.ensures)
      (discard_no_dispatch m.frame m.content c.requires.spelled c.requires.kind) (kept_at a) e.2 e.3
      c.give_up.result _ c.requires.room on c.give_up.ensures.result c.give_up.ensures.new;
}
