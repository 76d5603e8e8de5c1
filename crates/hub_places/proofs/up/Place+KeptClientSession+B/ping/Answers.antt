use Rattle.hub_places.proofs.LockingUp.{ping_may}
use Rattle.hub_places.proofs.Sitting.{no_more, opened_up}
use Rattle.hub_places.proofs.up.Place+KeptClientSession+B.ping.Goals as goal

pub log-none-requires-clause-may : goal.log-none-requires-clause-may
log-none-requires-clause-may g c = no_more (ping_may _ _ _ _ (opened_up c.self.invariant.0) c.ping-result.ensures.event)
