use Rattle.hub_delivery.specs.Carrying.{AreOthers}
use Rattle.hub_delivery.proofs.slots.Slots.candidates.Given as goal

abbrev pub invariant-loop-server : goal.invariant-loop-server
invariant-loop-server g l = AreOthers l.servers l.but l.by l.candidates.items
