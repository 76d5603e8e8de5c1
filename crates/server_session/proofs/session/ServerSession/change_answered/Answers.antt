use Rattle.std.proofs.Common.{◌≡◌, ℕ, ◌+◌, ◌-◌, ◌*◌, ◌≤◌, ◌∙◌, ap, refl}
use Rattle.translate_book.specs.Book.{entry_at}
use Rattle.server_session.specs.State.{State}
use Rattle.server_session.proofs.Awaiting.{Freed, answered_sound}
use Rattle.server_session.proofs.session.ServerSession.change_answered.Goals as goal
use Rattle.server_session.proofs.session.ServerSession.change_answered.Goals.{In-Some}

freed : (c : In-Some) (left : ℕ) → left ≡ c.in-Some.effect.was.left
    → (1 ≤ c.self.inside.in_use) × (2 + 2 * left ≤ c.self.inside.kept)
    × Freed c.self.inside c.change_at.new.self (c.self.inside.in_use - 1) (c.self.inside.kept - (2 + 2 * left))
freed c left is =
    answered_sound c.self.inside c.args.seq c.requires.0 c.in-Some.effect c.change_at.new.self left c.self.invariant
    (ap (λ (s : State). entry_at c.args.seq s.book) c.self.view_is ∙ c.requires.1) c.requires.2 c.in-Some.ensures.effect is c.in-Some.ensures.after

pub overflow_sub-self : goal.overflow_sub-self
overflow_sub-self c = (freed c _ refl).0

pub overflow_sub-self-2 : goal.overflow_sub-self-2
overflow_sub-self-2 c = (freed (goal.at.overflow_sub-self-2 c).In-Some c.from.result c.from.ensures).1

pub invariant_of-self : goal.invariant_of-self
invariant_of-self c = (freed (goal.at.invariant_of-self c).In-Some c.from.result c.from.ensures).2.sound

pub returns-clause-records : goal.returns-clause-records
returns-clause-records c = (freed (goal.at.returns-clause-records c).In-Some c.from.result c.from.ensures).2.records

pub returns-clause-out : goal.returns-clause-out
returns-clause-out c = (freed (goal.at.returns-clause-out c).In-Some c.from.result c.from.ensures).2.out
