use Rattle.std.proofs.Common.{◌<◌, ◌≤◌, ℕ, vec_len}
use Rattle.hub_base.specs.Errands.{client_of, server_of}
use Rattle.hub_places.specs.Holding.{HasClaims}
use Rattle.hub_delivery.specs.Carrying.{Served}
use Rattle.hub_delivery.specs.Leaving.{HasServer, KeepsBatch, NoMore, NoneAt, offer_of, refused_of, reply_of}
use Rattle.hub_delivery.proofs.slots.Slots.to_servers.Given as goal

abbrev pub invariant-loop-at : goal.invariant-loop-at
invariant-loop-at g l =
    KeepsBatch l.initial.batch l.batch × (l.initial.made ≤ l.made)
    × ((i : ℕ) → i < l.at → NoneAt server_of (HasServer (vec_len l.self.ups)) l.batch.errands i)
    × NoMore reply_of l.initial.batch.errands l.batch.errands
    × NoMore offer_of l.initial.batch.errands l.batch.errands
    × (((i : ℕ) → NoneAt offer_of (HasServer (vec_len l.self.ups)) l.initial.batch.errands i)
    → NoMore client_of l.initial.batch.errands l.batch.errands)
    × (((i : ℕ) → NoneAt offer_of (HasServer (vec_len l.self.ups)) l.initial.batch.errands i)
    → NoMore refused_of l.initial.batch.errands l.batch.errands)
    × Served l.now l.initial.batch.errands l.batch.errands
    × HasClaims l.claims l.batch.errands
