use Rattle.std.proofs.Common.{◌∷◌, [], codes}
use Rattle.operator_port.specs.Metrics.{bucket_line, text_line, value_line}
use Rattle.operator_port.specs.Seconds.{seconds_of_micros}
use Rattle.operator_port.proofs.TextLemmas.{block_whole}
use Rattle.operator_port.proofs.metrics.push_totals.Goals as goal

pub returns : goal.returns
returns c =
    block_whole (bucket_line (codes "+Inf") c.args.count)
    (text_line (codes "voltgalley_dispatch_seconds_sum") (seconds_of_micros c.args.sum) ∷ [])
    (value_line (codes "voltgalley_dispatch_seconds_count") c.args.count ∷ []) _ _ _ _
    c.in_ok-push_bucket.ensures c.in_ok-push_micros.ensures c.in_ok-push_number.ensures
