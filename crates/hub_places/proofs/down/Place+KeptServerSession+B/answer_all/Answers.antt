use Rattle.std.proofs.Common.{ap, ◌∙◌, subst, sym}
use Rattle.hub_places.specs.Seating.{Seating}
use Rattle.hub_places.specs.Holding.{HasClaims}
use Rattle.hub_places.proofs.LockingDown.{answers_may}
use Rattle.hub_places.proofs.Claiming.{carried_more, carry_values}
use Rattle.hub_places.proofs.Sitting.{entered_down}
use Rattle.hub_places.proofs.down.Place+KeptServerSession+B.answer_all.Goals as goal

pub log-requires-clause-may : goal.log-requires-clause-may
log-requires-clause-may g c =
    let e = c.enter.ensures in
    let held = subst (λ v. HasClaims v c.args.errands.now.items) (sym c.value.ensures.value) (carry_values c.requires.claims) in
    answers_may _ _ _ (entered_down e c.self.invariant.0) (ap (λ (s : Seating _). s.number) c.self.view_is ∙ c.requires.number) (carried_more e.seen e.hands held) c.answer_all.ensures.event
