use Rattle.std.proofs.Common.{◌≡◌, ◌++◌, flat_map, take}
use Rattle.operator_port.specs.Destinations.{byte_text}
use Rattle.operator_port.proofs.destinations.push_escaped.Given as goal

abbrev pub invariant-loop-byte : goal.invariant-loop-byte
invariant-loop-byte l = l.text.items ≡ l.fn.text.items ++ flat_map byte_text (take l.byte-index l.dst)
