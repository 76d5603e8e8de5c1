use Rattle.std.proofs.Common.{◌≡◌, ◌+◌, length}
use Rattle.hub_steps.specs.Batches.{TakesAllDown}
use Rattle.hub_steps.proofs.down_batch.start_all.Given as goal

abbrev pub invariant-loop : goal.invariant-loop
invariant-loop g l =
    TakesAllDown l.now l.initial.slot l.slot l.initial.batch l.batch l.initial.receipts l.receipts
    × (length l.batch.frames + l.counter ≡ l.end)
