use Rattle.std.proofs.Common.{◌≡◌, ◌<◌, ◌≤◌, ℕ, vec_len}
use mathlib.Core.List.{IsPrefix}
use Rattle.hub_places.specs.Holding.{HasClaims}
use Rattle.hub_delivery.specs.Carrying.{Retried}
use Rattle.hub_delivery.specs.Leaving.{KeepsBatch, NoMore, NoneRefused, offer_of, reply_of}
use Rattle.hub_delivery.proofs.slots.Slots.try_others.Given as goal

abbrev pub invariant-loop-at : goal.invariant-loop-at
invariant-loop-at g l =
    IsPrefix l.initial.routes l.routes
    × KeepsBatch l.initial.batch l.batch
    × NoMore reply_of l.initial.batch.errands l.batch.errands
    × NoMore offer_of l.initial.batch.errands l.batch.errands
    × (l.initial.made ≤ l.made)
    × ((i : ℕ) → i < l.at → NoneRefused l.batch.errands i)
    × Retried l.now (vec_len l.self.ups) l.but l.initial.routes l.initial.batch.errands l.routes l.batch.errands
    × HasClaims l.claims l.batch.errands
