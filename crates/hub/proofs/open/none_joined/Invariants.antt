use Rattle.std.proofs.Common.{◌≡◌, ◌≤◌, vec_len, vec_capacity}
use Rattle.hub.proofs.open.none_joined.Given as goal

abbrev pub invariant-loop : goal.invariant-loop
invariant-loop l = (vec_len l.joined ≡ l.counter) × (l.count ≤ vec_capacity l.joined)
