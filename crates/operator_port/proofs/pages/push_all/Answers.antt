use Rattle.operator_port.proofs.TextLemmas.{row_pushed}
use Rattle.operator_port.proofs.pages.push_all.Goals as goal

pub loop-row-preserved : goal.loop-row-preserved
loop-row-preserved g c =
    row_pushed (g.P.Prints.line c.args.printer.now) c.args.text.now.items c.args.rows.now c.loop-row.row-index c.row-item.result _ _
    c.loop-row-test.true c.row-item.is c.loop-row.invariant c.in_ok-push.ensures
