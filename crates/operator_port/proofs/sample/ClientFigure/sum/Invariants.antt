use Rattle.std.proofs.Common.{◌≡◌, take}
use Rattle.operator_port.specs.Metrics.{client_figure, sum_to}
use Rattle.operator_port.proofs.sample.ClientFigure.sum.Given as goal

abbrev pub invariant-loop-row : goal.invariant-loop-row
invariant-loop-row l = l.total ≡ sum_to (client_figure l.self) (take l.row-index l.rows)
