use Rattle.std.proofs.Common.{◌≡◌, ◌++◌, map, take}
use Rattle.operator_port.specs.Texts.{text_of}
use Rattle.operator_port.proofs.pages.push_all.Given as goal

abbrev pub invariant-loop-row : goal.invariant-loop-row
invariant-loop-row g l =
    l.text.items ≡ l.fn.text.items ++ text_of (map (g.P.Prints.line l.printer) (take l.row-index l.rows))
