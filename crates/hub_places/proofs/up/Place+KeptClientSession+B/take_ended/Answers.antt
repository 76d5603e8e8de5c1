use Rattle.hub_places.proofs.LockingUp.{given_up}
use Rattle.hub_places.proofs.up.Place+KeptClientSession+B.take_ended.Goals as goal

pub invariant_of-self : goal.invariant_of-self
invariant_of-self g c = (given_up _ _ _ _ _ _ c.take_ended.ensures.event c.self.invariant.0, c.self.invariant.1, c.self.invariant.2)
