use Rattle.hub_places.proofs.LockingUp.{lose_next_may}
use Rattle.hub_places.proofs.Sitting.{opened_up}
use Rattle.hub_places.proofs.up.Place+KeptClientSession+B.lose_next.Goals as goal

pub log-claim-requires-clause-may : goal.log-claim-requires-clause-may
log-claim-requires-clause-may g c = lose_next_may _ _ _ (opened_up c.self.invariant.0) c.lose_next-result.ensures.event c.lose_next-result.ensures.none
