use Rattle.std.proofs.Common.{◌≤◌}
use Rattle.router_tasks.proofs.drains.drain_turn.Given as goal

abbrev pub invariant-loop-place : goal.invariant-loop-place
invariant-loop-place g l = l.turn.drained ≤ 100
