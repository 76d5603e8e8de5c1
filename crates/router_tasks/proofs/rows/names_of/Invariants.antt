use Rattle.std.proofs.Common.{◌≡◌, map, string_bytes, take}
use Rattle.router_tasks.specs.Rows.{names_at}
use Rattle.router_tasks.proofs.rows.names_of.Given as goal

abbrev pub invariant-loop-server : goal.invariant-loop-server
invariant-loop-server l = map string_bytes l.found.items ≡ names_at (take l.server-index l.servers) l.names
