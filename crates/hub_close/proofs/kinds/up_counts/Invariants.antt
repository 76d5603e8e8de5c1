use Rattle.std.proofs.Common.{take}
use Rattle.std.specs.Prelude.{map}
use Rattle.mux_history.specs.Counting.{IsCount}
use Rattle.mux_agree.specs.Walk.{all_records, kept_up}
use Rattle.hub_close.proofs.kinds.up_counts.Given as goal

abbrev pub invariant-loop-up : goal.invariant-loop-up
invariant-loop-up l = IsCount l.counts (all_records (map kept_up (take l.up-index l.ups)))
