use Rattle.hub_places.proofs.LockingUp.{take_out_may}
use Rattle.hub_places.proofs.Sitting.{opened_up}
use Rattle.hub_places.proofs.Homes.{drop_more}
use Rattle.hub_places.proofs.up.Place+KeptClientSession+B.take_out.Goals as goal

pub log-none-requires-clause-may : goal.log-none-requires-clause-may
log-none-requires-clause-may g c = drop_more (take_out_may _ _ _ (opened_up c.self.invariant.0) c.take_out-result.ensures.event c.take_out-result.ensures.none)
