use Rattle.std.proofs.Common.{take}
use Rattle.mux_agree.specs.Walk.{joined}
use Rattle.rolling_audit.specs.Steps.{TakesAll}
use Rattle.rolling_audit.proofs.verdict.take_epochs.Given as goal

abbrev pub invariant-loop-epoch : goal.invariant-loop-epoch
invariant-loop-epoch l = TakesAll l.fn.audit l.session (joined (take l.epoch-index l.epochs)) l.audit
