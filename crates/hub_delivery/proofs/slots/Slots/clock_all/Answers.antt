use Rattle.std.proofs.Common.{rules}
use Rattle.hub_delivery.specs.Clocking as clocking
use Rattle.hub_delivery.proofs.slots.Slots.clock_all.Goals as goal

pub loop-slot-init : goal.loop-slot-init
loop-slot-init g c = (clocking.Clocks.none, search rules)

pub loop-slot-preserved : goal.loop-slot-preserved
loop-slot-preserved g c = (clocking.Clocks.next (c.clock-refused.result, c.clock-refused.ensures.event) c.loop-slot.invariant.0, search rules)
