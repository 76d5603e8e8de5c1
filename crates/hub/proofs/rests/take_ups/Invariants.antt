use Rattle.std.proofs.Common.{drop}
use Rattle.hub.specs.Rests.{Goes, up_rests}
use Rattle.hub.proofs.rests.take_ups.Given as goal

abbrev pub invariant-loop-up : goal.invariant-loop-up
invariant-loop-up l = Goes l.initial.audit (up_rests l.ups) (up_rests (drop l.up-index l.ups)) l.audit
