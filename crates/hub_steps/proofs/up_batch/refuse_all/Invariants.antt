use Rattle.std.proofs.Common.{◌≡◌, None, length}
use Rattle.hub_steps.specs.Batches.{ServesUp}
use Rattle.hub_steps.proofs.up_batch.refuse_all.Given as goal

abbrev pub invariant-loop-at : goal.invariant-loop-at
invariant-loop-at l =
    ServesUp l.now l.server None l.initial.errands.items None l.errands.items
    × ((length l.errands.items ≡ length l.initial.errands.items) × (l.errands.room ≡ l.initial.errands.room))
