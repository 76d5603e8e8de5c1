use Rattle.std.proofs.Common.{◌≡◌, ◌++◌, flat_map, take}
use Rattle.operator_port.specs.Metrics.{family_lines}
use Rattle.operator_port.specs.Texts.{text_of}
use Rattle.operator_port.proofs.metrics.push_families.Given as goal

abbrev pub invariant-loop-family : goal.invariant-loop-family
invariant-loop-family l =
    l.text.items ≡ l.fn.text.items ++ text_of (flat_map (family_lines l.figures) (take l.family-index l.families))
