use Rattle.std.proofs.Common.{◌≤◌}
use Rattle.hub_delivery.proofs.slots.Slots.end_epochs.Given as goal

abbrev pub invariant-loop-slot : goal.invariant-loop-slot
invariant-loop-slot g l = l.initial.made ≤ l.made

abbrev pub invariant-loop-slot-2 : goal.invariant-loop-slot-2
invariant-loop-slot-2 g l = l.initial.made ≤ l.made
