use Rattle.std.proofs.Common.{◌≤◌, vec_len}
use Rattle.std.specs.Prelude.{All}
use Rattle.hub_slots.specs.Histories.{IsKeptUp}
use Rattle.hub_slots.proofs.histories.of_servers.Given as goal

abbrev pub invariant-loop-slot : goal.invariant-loop-slot
invariant-loop-slot g l = (vec_len l.slots ≤ vec_len l.histories) × All IsKeptUp l.histories.items

abbrev pub decreases-loop-slot : goal.decreases-loop-slot
decreases-loop-slot g l = goal.left-loop-slot g l
