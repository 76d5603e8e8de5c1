use Rattle.std.proofs.Common.{◌≡◌, ◌≢◌, ◌<◌, ℕ, Some, length}
use Rattle.hub_base.specs.Errands.{server_at}
use Rattle.hub_steps.specs.Batches.{ServesUp}
use Rattle.hub_steps.proofs.up_batch.serve_all.Given as goal

abbrev pub invariant-loop-at : goal.invariant-loop-at
invariant-loop-at l =
    ServesUp l.now l.server l.initial.slot l.initial.errands.items l.slot l.errands.items
    × ((length l.errands.items ≡ length l.initial.errands.items) × (l.errands.room ≡ l.initial.errands.room))
    × ((i : ℕ) → i < l.at → server_at l.errands.items i ≢ Some l.server)
