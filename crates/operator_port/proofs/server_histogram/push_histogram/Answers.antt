use Rattle.std.proofs.Common.{◌≡◌, ◌++◌, List, ℕ, codes, subst}
use Rattle.operator_port.specs.Metrics.{spans_lines}
use Rattle.operator_port.specs.Texts.{text_of}
use Rattle.operator_port.proofs.TextLemmas.{further}
use Rattle.operator_port.proofs.server_histogram.push_histogram.Goals as goal

pub returns : goal.returns
returns c =
    let d = c.args.row.now.delays in
    let server = c.as_str-server.result.now in
    let old = c.args.text.now.items in
    subst (λ (name : List ℕ). c.push_spans-2.new.text.items
    ≡ old ++ text_of (spans_lines name (codes "reply") d.replies ++ spans_lines name (codes "nack") d.nacks))
    c.as_str-server.ensures.value
    (further old (spans_lines server (codes "reply") d.replies) (spans_lines server (codes "nack") d.nacks) _ _ c.in_ok-push_spans.ensures
    c.in_ok-push_spans-2.ensures)
