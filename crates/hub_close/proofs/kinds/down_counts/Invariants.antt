use Rattle.std.proofs.Common.{take}
use Rattle.std.specs.Prelude.{map}
use Rattle.mux_history.specs.Counting.{IsCount}
use Rattle.mux_agree.specs.Walk.{all_records, kept_down}
use Rattle.hub_close.proofs.kinds.down_counts.Given as goal

abbrev pub invariant-loop-down : goal.invariant-loop-down
invariant-loop-down l = IsCount l.counts (all_records (map kept_down (take l.down-index l.downs)))
