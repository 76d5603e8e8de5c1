use Rattle.hub_places.proofs.LockingUp.{clock_may}
use Rattle.hub_places.proofs.Sitting.{no_more, opened_up}
use Rattle.hub_places.proofs.up.Place+KeptClientSession+B.clock.Goals as goal

pub log-none-requires-clause-may : goal.log-none-requires-clause-may
log-none-requires-clause-may g c = no_more (clock_may _ _ _ _ (opened_up c.self.invariant.0) c.clock-result.ensures.event)
