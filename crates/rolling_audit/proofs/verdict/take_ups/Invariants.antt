use Rattle.std.proofs.Common.{take}
use Rattle.std.specs.Prelude.{map}
use Rattle.mux_agree.specs.Walk.{kept_up}
use Rattle.rolling_audit.specs.Whole.{TakesEach}
use Rattle.rolling_audit.proofs.verdict.take_ups.Given as goal

abbrev pub invariant-loop-up : goal.invariant-loop-up
invariant-loop-up l = TakesEach l.fn.audit (map kept_up (take l.up-index l.ups)) l.audit
