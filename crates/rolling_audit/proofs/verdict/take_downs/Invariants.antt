use Rattle.std.proofs.Common.{take}
use Rattle.std.specs.Prelude.{map}
use Rattle.mux_agree.specs.Walk.{kept_down}
use Rattle.rolling_audit.specs.Whole.{TakesEach}
use Rattle.rolling_audit.proofs.verdict.take_downs.Given as goal

abbrev pub invariant-loop-down : goal.invariant-loop-down
invariant-loop-down l = TakesEach l.fn.audit (map kept_down (take l.down-index l.downs)) l.audit
