use Rattle.std.proofs.Common.{flat_map, codes}
use Rattle.operator_port.specs.Metrics.{head, server_histogram}
use Rattle.operator_port.proofs.TextLemmas.{headed}
use Rattle.operator_port.proofs.server_histogram.push_server_latency.Goals as goal

pub returns : goal.returns
returns c =
    headed (head (codes "voltgalley_server_dispatch_seconds") (codes "How long dispatches to the server took.") (codes "histogram"))
    (flat_map server_histogram c.args.rows.now) _ _ _ c.in_ok-push_head.ensures c.in_ok-push_histograms.ensures
