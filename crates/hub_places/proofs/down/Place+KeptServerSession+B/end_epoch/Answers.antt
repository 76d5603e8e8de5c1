use Rattle.hub_places.proofs.LockingDown.{end_may}
use Rattle.hub_places.proofs.Sitting.{no_more, opened_down}
use Rattle.hub_places.proofs.down.Place+KeptServerSession+B.end_epoch.Goals as goal

pub log-none-requires-clause-may : goal.log-none-requires-clause-may
log-none-requires-clause-may g c = no_more (end_may _ _ _ _ _ (opened_down c.self.invariant.0) c.end_epoch-result.ensures.event)
