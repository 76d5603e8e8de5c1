use Rattle.std.proofs.Common.{◌≡◌, length}
use Rattle.mux_history.proofs.Adding.{AreAdded}
use Rattle.mux_history.proofs.delays.Spans.plus.Given as goal

abbrev pub invariant-loop-bucket : goal.invariant-loop-bucket
invariant-loop-bucket l =
    (length l.both.counts ≡ 13) × (l.both.sum ≡ l.fn.self.sum) × AreAdded l.bucket l.both.counts l.fn.self.counts l.other.counts
