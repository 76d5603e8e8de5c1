use Rattle.std.proofs.Common.{◌≤◌}
use Rattle.hub_delivery.specs.Clocking.{Clocks}
use Rattle.hub_delivery.proofs.slots.Slots.clock_all.Given as goal

abbrev pub invariant-loop-slot : goal.invariant-loop-slot
invariant-loop-slot g l = Clocks l.now l.slot-index × (l.initial.made ≤ l.made)
