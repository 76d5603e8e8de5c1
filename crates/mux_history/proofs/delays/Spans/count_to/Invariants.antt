use Rattle.std.proofs.Common.{◌≡◌, take}
use Rattle.std.specs.List.{fold}
use Rattle.mux_history.specs.Delaying.{plus_capped}
use Rattle.mux_history.proofs.delays.Spans.count_to.Given as goal

abbrev pub invariant-loop-more : goal.invariant-loop-more
invariant-loop-more l = l.count ≡ fold plus_capped 0 (take l.more-index l.self.counts)
