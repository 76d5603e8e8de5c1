use Rattle.std.proofs.Common.{◌≡◌, ◌++◌, ℕ, map, subst₂}
use Rattle.mux_history.specs.declared.delays.TheConstants.{BOUNDS}
use Rattle.operator_port.specs.Metrics.{server_bucket_sample, server_totals}
use Rattle.operator_port.specs.Texts.{text_of}
use Rattle.operator_port.proofs.TextLemmas.{further}
use Rattle.operator_port.proofs.server_histogram.push_spans.Goals as goal

pub returns : goal.returns
returns c =
    let server = c.args.labels.now.server.now in
    let outcome = c.args.labels.now.outcome.now in
    let old = c.args.text.now.items in
    let buckets = map (server_bucket_sample server outcome c.args.spans.now) BOUNDS in
    subst₂ (λ (count sum : ℕ). c.push_totals.new.text.items ≡ old ++ text_of (buckets ++ server_totals server outcome count sum))
    c.count.ensures c.sum.ensures
    (further old buckets (server_totals server outcome c.count.result c.sum.result) _ _ c.in_ok-push_buckets.ensures c.in_ok-push_totals.ensures)
