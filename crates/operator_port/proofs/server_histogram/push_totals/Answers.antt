use Rattle.std.proofs.Common.{◌∷◌, [], codes}
use Rattle.operator_port.specs.Metrics.{server_bucket, server_count, server_sum}
use Rattle.operator_port.proofs.TextLemmas.{block_whole}
use Rattle.operator_port.proofs.server_histogram.push_totals.Goals as goal

pub returns : goal.returns
returns c =
    let server = c.args.labels.now.server.now in
    let outcome = c.args.labels.now.outcome.now in
    block_whole (server_bucket server outcome (codes "+Inf") c.args.count) (server_sum server outcome c.args.sum ∷ [])
    (server_count server outcome c.args.count ∷ []) _ _ _ _
    c.in_ok-push_bucket.ensures c.in_ok-push_sum.ensures c.in_ok-push_count.ensures
