use Rattle.std.proofs.Common.{◌≡◌, ◌++◌, subst}
use Rattle.operator_port.specs.declared.figures.ServerWork.{ServerWork}
use Rattle.operator_port.specs.Metrics.{server_histogram}
use Rattle.operator_port.specs.Texts.{text_of}
use Rattle.operator_port.proofs.TextLemmas.{block_pushed, blocks_whole}
use Rattle.operator_port.proofs.server_histogram.push_histograms.Goals as goal

pub loop-row-preserved : goal.loop-row-preserved
loop-row-preserved c =
    block_pushed server_histogram c.args.text.now.items c.args.rows.now c.loop-row.row-index c.row-item.result _ _
    c.loop-row-test.true c.loop-row.invariant
    (subst (λ (w : ServerWork). c.push_histogram.new.text.items ≡ c.loop-row.text.items ++ text_of (server_histogram w))
    c.row-item.is c.in_ok-push_histogram.ensures)

pub returns : goal.returns
returns c =
    blocks_whole server_histogram c.args.text.now.items c.args.rows.now c.loop-row.row-index _
    c.loop-row-test.false c.loop-row.invariant
