use Rattle.std.proofs.Common.{subst, sym}
use Rattle.server_session.specs.Steps.{ticket_of}
use Rattle.hub_places.specs.Holding.{Holds, beside}
use Rattle.std.proofs.Common.{Some}
use Rattle.hub_places.proofs.LockingUp.{offer_may}
use Rattle.hub_places.proofs.Claiming.{hold_values, seen_more}
use Rattle.hub_places.proofs.Sitting.{entered_up}
use Rattle.hub_places.proofs.up.Place+KeptClientSession+B.offer.Goals as goal

pub log-requires-clause-may : goal.log-requires-clause-may
log-requires-clause-may g c =
    let e = c.enter.ensures in
    let held = subst (λ v. Holds v (beside (Some (ticket_of c.args.ticket)) c.args.errands.now.items)) (sym c.value.ensures.value) (hold_values c.requires.claims) in
    offer_may _ _ _ _ _ _ (entered_up e c.self.invariant.0) (seen_more e.seen e.hands held) c.offer-result.ensures.event c.offer-result.ensures.none
