use Rattle.hub_places.proofs.LockingDown.{given_down}
use Rattle.hub_places.proofs.down.Place+KeptServerSession+B.take_ended.Goals as goal

pub invariant_of-self : goal.invariant_of-self
invariant_of-self g c = (given_down _ _ _ _ _ _ c.take_ended.ensures.event c.self.invariant.0, c.self.invariant.1, c.self.invariant.2)
