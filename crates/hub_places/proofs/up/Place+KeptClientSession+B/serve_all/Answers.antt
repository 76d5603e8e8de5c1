use Rattle.std.proofs.Common.{ap, ◌∙◌, subst, sym}
use Rattle.hub_places.specs.Seating.{Seating}
use Rattle.hub_places.specs.Holding.{HasClaims}
use Rattle.hub_places.proofs.LockingUp.{serves_may}
use Rattle.hub_places.proofs.Claiming.{carried_more, carry_values}
use Rattle.hub_places.proofs.Sitting.{entered_up}
use Rattle.hub_places.proofs.up.Place+KeptClientSession+B.serve_all.Goals as goal

pub log-requires-clause-may : goal.log-requires-clause-may
log-requires-clause-may g c =
    let e = c.enter.ensures in
    let held = subst (λ v. HasClaims v c.args.errands.now.items) (sym c.value.ensures.value) (carry_values c.requires.claims) in
    serves_may _ _ _ (entered_up e c.self.invariant.0) (ap (λ (s : Seating _). s.number) c.self.view_is ∙ c.requires.number) (carried_more e.seen e.hands held) c.serve_all.ensures.event
