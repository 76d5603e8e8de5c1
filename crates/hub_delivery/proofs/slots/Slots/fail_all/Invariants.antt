use Rattle.std.proofs.Common.{◌≤◌, vec_len}
use Rattle.hub_delivery.specs.Losing.{Fails}
use Rattle.hub_delivery.proofs.slots.Slots.fail_all.Given as goal

abbrev pub invariant-loop : goal.invariant-loop
invariant-loop g l = (l.initial.made ≤ l.made) × Fails (vec_len l.self.downs) l.server l.counter
