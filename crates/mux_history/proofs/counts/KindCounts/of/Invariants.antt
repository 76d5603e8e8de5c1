use Rattle.std.proofs.Common.{take}
use Rattle.mux_history.specs.Counting.{IsCount}
use Rattle.mux_history.proofs.counts.KindCounts.of.Given as goal

abbrev pub invariant-loop-met : goal.invariant-loop-met
invariant-loop-met l = IsCount l.counts (take l.met-index l.records)
