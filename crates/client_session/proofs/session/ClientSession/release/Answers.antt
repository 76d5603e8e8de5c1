use Rattle.std.proofs.Common.{◌-◌, ◌≤◌, ap, sym, ◌∙◌}
use Rattle.client_session.specs.Past.{Dispatch}
use Rattle.client_session.proofs.Soundness.{Released, released_fresh, released_recalled}
use Rattle.client_session.proofs.session.ClientSession.release.Goals as goal
use Rattle.client_session.proofs.session.ClientSession.release.Goals.{Then-not-recalled, Else-not-recalled, then-not-recalled, else-not-recalled}

fresh : (c : Then-not-recalled) → (1 ≤ c.self.inside.fresh) × Released c.self.inside c.give.new.self (c.self.inside.fresh - 1)
fresh c =
    released_fresh c.self.inside c.give.new.self c.args.tag c.in-Some.holding c.self.invariant (sym c.in-Some.ensures.value) c.in-Some.ensures.given
    (ap (λ (h : Dispatch). h.recalled) (sym c.holding.view_is) ∙ c.if-not-recalled.true)

recalled : (c : Else-not-recalled) → Released c.self.inside c.give.new.self c.self.inside.fresh
recalled c =
    released_recalled c.self.inside c.give.new.self c.args.tag c.in-Some.holding c.self.invariant (sym c.in-Some.ensures.value) c.in-Some.ensures.given
    (ap (λ (h : Dispatch). h.recalled) (sym c.holding.view_is) ∙ c.if-not-recalled.false)

pub overflow_sub-self : goal.overflow_sub-self
overflow_sub-self c = (fresh c).0

pub invariant_of-self : goal.invariant_of-self
invariant_of-self c = (fresh (goal.at.invariant_of-self c).Then-not-recalled).1.sound

pub invariant_of-self-else-not-recalled : goal.invariant_of-self-else-not-recalled
invariant_of-self-else-not-recalled c = (recalled c).sound

pub returns-clause-records : goal.returns-clause-records
returns-clause-records c =
    let marked = ap (λ (h : Dispatch). h.recalled) (sym c.holding.view_is) in
    elim c.if-not-recalled.branch [
      | then-not-recalled w ↦
          rw (w.self-is, ← c.self.view_is) ((released_fresh c.self.inside c.give.new.self c.args.tag c.in-Some.holding c.self.invariant (sym c.in-Some.ensures.value) c.in-Some.ensures.given (marked ∙ w.if-not-recalled.true)).1.records)
      | else-not-recalled w ↦
          rw (w.self-is, ← c.self.view_is) ((released_recalled c.self.inside c.give.new.self c.args.tag c.in-Some.holding c.self.invariant (sym c.in-Some.ensures.value) c.in-Some.ensures.given (marked ∙ w.if-not-recalled.false)).records)
    ]
