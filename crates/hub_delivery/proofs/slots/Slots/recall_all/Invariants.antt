use Rattle.std.proofs.Common.{◌≤◌, vec_len}
use Rattle.hub_delivery.specs.Losing.{Recalls}
use Rattle.hub_delivery.proofs.slots.Slots.recall_all.Given as goal

abbrev pub invariant-loop : goal.invariant-loop
invariant-loop g l = (l.initial.made ≤ l.made) × Recalls l.now (vec_len l.self.ups) l.client l.counter
