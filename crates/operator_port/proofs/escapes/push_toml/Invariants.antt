use Rattle.std.proofs.Common.{◌≡◌, ◌++◌, flat_map, take}
use Rattle.operator_port.specs.Escapes.{toml_byte}
use Rattle.operator_port.proofs.escapes.push_toml.Given as goal

abbrev pub invariant-loop-byte : goal.invariant-loop-byte
invariant-loop-byte l = l.text.items ≡ l.fn.text.items ++ flat_map toml_byte (take l.byte-index l.value)
