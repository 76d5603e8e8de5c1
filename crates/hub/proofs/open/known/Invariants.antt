use Rattle.std.proofs.Common.{◌≡◌, ◌≤◌, vec_len, vec_capacity, length}
use Rattle.hub.proofs.open.known.Given as goal

abbrev pub invariant-loop-server : goal.invariant-loop-server
invariant-loop-server l = (vec_len l.all ≡ l.server-index) × (length l.servers ≤ vec_capacity l.all)
