use Rattle.std.proofs.Common.{◌≡◌, map, take, string_bytes}
use Rattle.operator_port.specs.Settings.{name_at}
use Rattle.operator_port.proofs.settings.names_of.Given as goal

abbrev pub invariant-loop-place : goal.invariant-loop-place
invariant-loop-place l = map string_bytes l.names.items ≡ map (name_at l.servers) (take l.place-index l.route.servers.items)
