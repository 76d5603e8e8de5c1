use Rattle.std.proofs.Common.{◌≡◌, ◌-◌, ◌∙◌, Some, ap, sym, subst, arith}
use Rattle.translate_book.specs.declared.entry.Entry.{Entry}
use Rattle.translate_book.specs.Entries.{applied}
use Rattle.translate_book.specs.Book.{BookView, entry_at}
use Rattle.server_session.specs.State.{State, MayApply, owes_at}
use Rattle.server_session.proofs.Books.{entry_at-own, owes_left}
use Rattle.server_session.proofs.Soundness.{Counted, counted, Changed, changed_sound}
use Rattle.server_session.proofs.session.ServerSession.change.Goals as goal
use Rattle.server_session.proofs.session.ServerSession.change.Goals.{After-struct_known-2-1}

module _ (c : After-struct_known-2-1) where
  there : (e : Entry) → entry_at c.args.seq c.args.self.now.book ≡ Some e → entry_at c.args.seq c.self.inside.book.entries ≡ Some e
  there e is = ap (λ (s : State). entry_at c.args.seq s.book) c.self.view_is ∙ is

  all : (e : Entry) → entry_at c.args.seq c.args.self.now.book ≡ Some e
      → Counted c.self.inside c.args.change e c.of-was.result.in_use c.of-was.result.kept c.of-is.result.in_use c.of-is.result.kept
  all e is =
      let two : Some c.requires.0 ≡ Some e = sym c.requires.1 ∙ is in
      let same : c.requires.0 ≡ e = cc in
      counted c.self.inside c.args.seq c.args.change e c.in-Some.effect _ _ _ _ c.self.invariant (there e is)
      (subst (MayApply c.args.change) same c.requires.2)
      c.in-Some.ensures.effect c.of-was.ensures.in_use c.of-was.ensures.kept c.of-is.ensures.in_use c.of-is.ensures.kept

  changed : (e : Entry) → entry_at c.args.seq c.args.self.now.book ≡ Some e
      → Changed c.self.inside c.change_at.new.self (c.self.inside.in_use - (c.of-was.result.in_use - c.of-is.result.in_use)) (c.self.inside.kept - (c.of-was.result.kept - c.of-is.result.kept)) e (applied c.args.change e)
  changed e is = changed_sound c.self.inside c.args.seq c.args.change e c.change_at.new.self _ _ _ _ c.self.invariant (there e is) c.in-Some.ensures.after (all e is)

pub overflow_sub-self : goal.overflow_sub-self
overflow_sub-self c = (all c c.requires.0 c.requires.1).fewer_use

pub overflow_sub-self-2 : goal.overflow_sub-self-2
overflow_sub-self-2 c = let k = all c c.requires.0 c.requires.1 in omega (arith, k.use_within)

pub overflow_sub-self-3 : goal.overflow_sub-self-3
overflow_sub-self-3 c = (all (goal.at.overflow_sub-self-3 c).After-struct_known-2-1 c.requires.0 c.requires.1).fewer_kept

pub overflow_sub-self-4 : goal.overflow_sub-self-4
overflow_sub-self-4 c = let k = all (goal.at.overflow_sub-self-4 c).After-struct_known-2-1 c.requires.0 c.requires.1 in omega (arith, k.kept_within)

pub invariant_of-self : goal.invariant_of-self
invariant_of-self c = (changed (goal.at.invariant_of-self c).After-struct_known-2-1 c.requires.0 c.requires.1).sound

pub returns-clause-records : goal.returns-clause-records
returns-clause-records c = λ e is. rw (← c.self.view_is) (changed (goal.at.returns-clause-records c).After-struct_known-2-1 e is).records

pub returns-clause-out : goal.returns-clause-out
returns-clause-out c = λ e is. rw (← c.self.view_is) (changed (goal.at.returns-clause-out c).After-struct_known-2-1 e is).out

pub returns-clause-owes : goal.returns-clause-owes
returns-clause-owes c = λ e is.
    let left = entry_at-own c.args.seq (applied c.args.change) 0 c.self.inside.book.entries c.self.inside.book.last e c.len-held.ensures.rising (there (goal.at.returns-clause-owes c).After-struct_known-2-1 e is) in
    ap owes_at (ap (λ (b : BookView). entry_at c.args.seq b.entries) c.in-Some.ensures.after ∙ left) ∙ owes_left (applied c.args.change e)
