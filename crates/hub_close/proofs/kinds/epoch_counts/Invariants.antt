use Rattle.std.proofs.Common.{take}
use Rattle.mux_history.specs.Counting.{IsCount}
use Rattle.mux_agree.specs.Walk.{joined}
use Rattle.hub_close.proofs.kinds.epoch_counts.Given as goal

abbrev pub invariant-loop-epoch : goal.invariant-loop-epoch
invariant-loop-epoch l = IsCount l.counts (joined (take l.epoch-index l.epochs))
