use Rattle.hub_places.proofs.LockingUp.{left_up}
use Rattle.hub_places.proofs.up.Place+KeptClientSession+B.take_finished.Goals as goal

pub invariant_of-self : goal.invariant_of-self
invariant_of-self g c = (left_up _ _ _ c.take_finished.ensures.event c.self.invariant.0, c.self.invariant.1, c.self.invariant.2)
