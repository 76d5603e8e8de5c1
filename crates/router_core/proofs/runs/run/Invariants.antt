use Rattle.router_core.proofs.Running.{Ran}
use Rattle.router_core.proofs.runs.run.Given as goal

abbrev pub invariant-loop-place : goal.invariant-loop-place
invariant-loop-place l = Ran l.fn.config.limits l.fn.config.boot l.fn.events l.core l.sides.items l.refused.items l.place
