use Rattle.std.proofs.Common.{◌≡◌, Some, sym, refl, ap, true, ◌∙◌, subst}
use Rattle.std.specs.FinMap as map
use Rattle.client_session.specs.Past.{Dispatch}
use Rattle.client_session.specs.State.{State, IsFreshEntry}
use Rattle.client_session.proofs.Soundness.{Marked, marked}
use Rattle.client_session.proofs.session.ClientSession.mark.Goals.{In-Some}
use Rattle.client_session.proofs.session.ClientSession.mark.Goals as goal

fact : (c : In-Some) (h : Dispatch) → h ≡ c.in-Some.holding.now
    → Marked c.self.inside (record c.self.inside.entries { entries = map.insert c.self.inside.entries.entries c.args.tag (record h { recalled = true }) })
fact c h is =
    let held = sym c.in-Some.ensures.value ∙ ap (λ (x : Dispatch). Some x) (sym is) in
    let fresh = subst IsFreshEntry (ap (λ (s : State). map.get s.entries c.args.tag) (sym c.self.view_is) ∙ held) c.requires in
    marked c.self.inside _ c.args.tag h c.self.invariant held fresh refl

pub overflow_sub-self : goal.overflow_sub-self
overflow_sub-self c = (fact (goal.at.overflow_sub-self c).In-Some _ c.holding.view_is).some

pub invariant_of-self : goal.invariant_of-self
invariant_of-self c = (fact (goal.at.invariant_of-self c).In-Some _ c.holding.view_is).sound

pub returns-clause-records : goal.returns-clause-records
returns-clause-records c = rw (← c.self.view_is) ((fact (goal.at.returns-clause-records c).In-Some _ c.holding.view_is).records)

pub returns-clause-out : goal.returns-clause-out
returns-clause-out c = rw (← c.self.view_is) ((fact (goal.at.returns-clause-out c).In-Some _ c.holding.view_is).out)

pub returns-clause-range : goal.returns-clause-range
returns-clause-range c =
    let h = (goal.at.returns-clause-range c).In-Some in
    c.self.invariant.tags c.args.tag (rw (← h.in-Some.ensures.value) refl)
