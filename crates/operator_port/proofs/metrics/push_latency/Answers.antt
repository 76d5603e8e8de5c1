use Rattle.std.proofs.Common.{map, codes}
use Rattle.operator_port.specs.Metrics.{bucket_sample, head, histogram_totals}
use Rattle.operator_port.proofs.TextLemmas.{block_whole}
use Rattle.operator_port.proofs.metrics.push_latency.Goals as goal

pub returns : goal.returns
returns c =
    let l = c.args.latency.now in
    let buckets = rw c.as_slice.ensures.value at c.in_ok-push_all.ensures in
    block_whole (head (codes "voltgalley_dispatch_seconds") (codes "How long dispatches took.") (codes "histogram"))
    (map bucket_sample l.buckets.items) (histogram_totals l.count l.sum) _ _ _ _
    c.in_ok-push_head.ensures buckets c.in_ok-push_totals.ensures
