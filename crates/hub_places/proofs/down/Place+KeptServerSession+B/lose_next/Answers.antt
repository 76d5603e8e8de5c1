use Rattle.hub_places.proofs.LockingDown.{lose_next_may}
use Rattle.hub_places.proofs.Sitting.{opened_down}
use Rattle.hub_places.proofs.down.Place+KeptServerSession+B.lose_next.Goals as goal

pub log-claim-requires-clause-may : goal.log-claim-requires-clause-may
log-claim-requires-clause-may g c = lose_next_may _ _ _ (opened_down c.self.invariant.0) c.lose_next-result.ensures.event c.lose_next-result.ensures.none
