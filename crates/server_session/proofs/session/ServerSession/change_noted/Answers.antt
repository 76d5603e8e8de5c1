use Rattle.std.proofs.Common.{◌≡◌, ◌-◌, ◌≤◌, ◌∙◌, Some, ap, sym, subst, true}
use Rattle.translate_book.specs.declared.entry.Entry.{Entry}
use Rattle.translate_book.specs.declared.entry.Change.TheVariants as changes
use Rattle.translate_book.specs.Entries.{applied, is_note_due}
use Rattle.translate_book.specs.Book.{BookView, entry_at}
use Rattle.server_session.specs.State.{State, owes_at}
use Rattle.server_session.proofs.Books.{entry_at-own, owes_left}
use Rattle.server_session.proofs.Soundness.{Changed, noted_sound}
use Rattle.server_session.proofs.session.ServerSession.change_noted.Goals as goal
use Rattle.server_session.proofs.session.ServerSession.change_noted.Goals.{In-Some}

module _ (c : In-Some) where
  there : (e : Entry) → entry_at c.args.seq c.args.self.now.book ≡ Some e → entry_at c.args.seq c.self.inside.book.entries ≡ Some e
  there e is = ap (λ (s : State). entry_at c.args.seq s.book) c.self.view_is ∙ is

  noted : (e : Entry) → entry_at c.args.seq c.args.self.now.book ≡ Some e
      → (1 ≤ c.self.inside.kept) × Changed c.self.inside c.change_at.new.self c.self.inside.in_use (c.self.inside.kept - 1) e (applied (changes.Note c.args.place) e)
  noted e is =
      let two : Some c.requires.0 ≡ Some e = sym c.requires.1 ∙ is in
      let same : c.requires.0 ≡ e = cc in
      noted_sound c.self.inside c.args.seq c.args.place e c.change_at.new.self c.self.invariant (there e is) (subst (λ (d : Entry). is_note_due d ≡ true) same c.requires.2) c.in-Some.ensures.after

pub overflow_sub-self : goal.overflow_sub-self
overflow_sub-self c = (noted c c.requires.0 c.requires.1).0

pub invariant_of-self : goal.invariant_of-self
invariant_of-self c = (noted (goal.at.invariant_of-self c).In-Some c.requires.0 c.requires.1).1.sound

pub returns-clause-records : goal.returns-clause-records
returns-clause-records c = λ e is. rw (← c.self.view_is) (noted (goal.at.returns-clause-records c).In-Some e is).1.records

pub returns-clause-out : goal.returns-clause-out
returns-clause-out c = λ e is. rw (← c.self.view_is) (noted (goal.at.returns-clause-out c).In-Some e is).1.out

pub returns-clause-owes : goal.returns-clause-owes
returns-clause-owes c = λ e is.
    let change = changes.Note c.args.place in
    let left = entry_at-own c.args.seq (applied change) 0 c.self.inside.book.entries c.self.inside.book.last e c.len-held.ensures.rising (there (goal.at.returns-clause-owes c).In-Some e is) in
    ap owes_at (ap (λ (b : BookView). entry_at c.args.seq b.entries) c.in-Some.ensures.after ∙ left) ∙ owes_left (applied change e)
