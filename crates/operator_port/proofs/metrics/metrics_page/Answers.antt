use Rattle.std.proofs.Common.{codes, flat_map}
use Rattle.operator_port.specs.Metrics.{all_families, family_lines, metric_lines}
use Rattle.operator_port.proofs.TextLemmas.{text_ended}
use Rattle.operator_port.proofs.metrics.metrics_page.Goals as goal

pub returns : goal.returns
unfolding metric_lines
returns c =
    text_ended (flat_map (family_lines c.args.figures.now) all_families) (codes "# EOF") _ _ _
    c.new-text.ensures.items c.in_ok-push_families.ensures c.in_ok-push_line.ensures
