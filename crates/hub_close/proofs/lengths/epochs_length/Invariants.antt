use Rattle.std.proofs.Common.{◌≡◌, length, take}
use Rattle.mux_history.specs.Counting.{capped}
use Rattle.mux_agree.specs.Walk.{joined}
use Rattle.hub_close.proofs.lengths.epochs_length.Given as goal

abbrev pub invariant-loop-epoch : goal.invariant-loop-epoch
invariant-loop-epoch l = l.records ≡ capped (length (joined (take l.epoch-index l.epochs)))
