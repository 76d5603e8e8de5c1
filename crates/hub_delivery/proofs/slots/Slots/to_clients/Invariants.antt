use Rattle.std.proofs.Common.{◌<◌, ◌≤◌, ℕ, vec_len}
use Rattle.hub_base.specs.Errands.{client_of}
use Rattle.hub_places.specs.Holding.{HasClaims}
use Rattle.hub_delivery.specs.Carrying.{Answered}
use Rattle.hub_delivery.specs.Leaving.{HasClient, KeepsBatch, NoMore, NoneAt, offer_of, refused_of, reply_of}
use Rattle.hub_delivery.proofs.slots.Slots.to_clients.Given as goal

abbrev pub invariant-loop-at : goal.invariant-loop-at
invariant-loop-at g l =
    KeepsBatch l.initial.batch l.batch × (l.initial.made ≤ l.made)
    × ((i : ℕ) → i < l.at → NoneAt client_of (HasClient (vec_len l.self.downs)) l.batch.errands i)
    × NoMore reply_of l.initial.batch.errands l.batch.errands
    × (((i : ℕ) → NoneAt reply_of (HasClient (vec_len l.self.downs)) l.initial.batch.errands i)
    → NoMore offer_of l.initial.batch.errands l.batch.errands)
    × NoMore refused_of l.initial.batch.errands l.batch.errands
    × Answered l.initial.batch.errands l.batch.errands
    × HasClaims l.claims l.batch.errands
