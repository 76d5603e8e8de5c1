use Rattle.std.proofs.Common.{◌≡◌, ◌++◌, flat_map, take}
use Rattle.operator_port.specs.Metrics.{server_histogram}
use Rattle.operator_port.specs.Texts.{text_of}
use Rattle.operator_port.proofs.server_histogram.push_histograms.Given as goal

abbrev pub invariant-loop-row : goal.invariant-loop-row
invariant-loop-row l =
    l.text.items ≡ l.fn.text.items ++ text_of (flat_map server_histogram (take l.row-index l.rows))
