use Rattle.std.proofs.Common.{drop}
use Rattle.hub.specs.Rests.{Goes, down_rests}
use Rattle.hub.proofs.rests.take_downs.Given as goal

abbrev pub invariant-loop-down : goal.invariant-loop-down
invariant-loop-down l = Goes l.initial.audit (down_rests l.downs) (down_rests (drop l.down-index l.downs)) l.audit
