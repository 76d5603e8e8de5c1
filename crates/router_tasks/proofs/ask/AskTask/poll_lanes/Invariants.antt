use Rattle.futures.specs.Task.{Keeps}
use Rattle.router_tasks.proofs.ask.AskTask.poll_lanes.Given as goal

abbrev pub invariant-loop-lane : goal.invariant-loop-lane
invariant-loop-lane g l = Keeps l.fn.cx l.cx
