use Rattle.hub_places.proofs.LockingDown.{take_out_may}
use Rattle.hub_places.proofs.Sitting.{opened_down}
use Rattle.hub_places.proofs.Homes.{drop_more}
use Rattle.hub_places.proofs.down.Place+KeptServerSession+B.take_out.Goals as goal

pub log-none-requires-clause-may : goal.log-none-requires-clause-may
log-none-requires-clause-may g c = drop_more (take_out_may _ _ _ (opened_down c.self.invariant.0) c.take_out-result.ensures.event c.take_out-result.ensures.none)
