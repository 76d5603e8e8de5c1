use Rattle.std.proofs.Common.{◌≤◌, vec_len}
use Rattle.std.specs.Prelude.{All}
use Rattle.hub_slots.specs.Histories.{IsKeptDown}
use Rattle.hub_slots.proofs.histories.of_clients.Given as goal

abbrev pub invariant-loop-slot : goal.invariant-loop-slot
invariant-loop-slot g l = (vec_len l.slots ≤ vec_len l.histories) × All IsKeptDown l.histories.items

abbrev pub decreases-loop-slot : goal.decreases-loop-slot
decreases-loop-slot g l = goal.left-loop-slot g l
