use Rattle.std.proofs.Common.{◌≡◌, ◌≢◌, ◌<◌, ℕ, Some, length}
use Rattle.hub_base.specs.Errands.{client_at}
use Rattle.hub_steps.specs.Batches.{AnswersDown}
use Rattle.hub_steps.proofs.down_batch.answer_all.Given as goal

abbrev pub invariant-loop-at : goal.invariant-loop-at
invariant-loop-at l =
    AnswersDown l.client l.initial.slot l.initial.errands.items l.slot l.errands.items
    × ((length l.errands.items ≡ length l.initial.errands.items) × (l.errands.room ≡ l.initial.errands.room))
    × ((i : ℕ) → i < l.at → client_at l.errands.items i ≢ Some l.client)
