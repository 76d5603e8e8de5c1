use Rattle.std.proofs.Common.{◌≡◌, ◌++◌, flat_map, take}
use Rattle.operator_port.specs.Escapes.{label_byte}
use Rattle.operator_port.proofs.escapes.push_label.Given as goal

abbrev pub invariant-loop-byte : goal.invariant-loop-byte
invariant-loop-byte l = l.text.items ≡ l.fn.text.items ++ flat_map label_byte (take l.byte-index l.value)
