use Rattle.std.proofs.Common.{rules, ◌∙◌, length-set}
use Rattle.mux_history.proofs.Adding.{one_more}
use Rattle.mux_history.proofs.delays.Spans.plus.Goals as goal

pub loop-bucket-preserved : goal.loop-bucket-preserved
loop-bucket-preserved c = (
  length-set c.loop-bucket.both.counts c.loop-bucket.bucket _ ∙ c.loop-bucket.invariant.0,
  c.loop-bucket.invariant.1,
  one_more c.loop-bucket.bucket _ c.loop-bucket.both.counts c.args.self.counts c.args.other.counts (search rules) c.loop-bucket.invariant.0 (search rules) c.loop-bucket.invariant.2,
)
