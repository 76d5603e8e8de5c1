use Rattle.std.proofs.Common.{◌≡◌, ◌≤◌, ◌∷◌, Some, length}
use Rattle.mux_frame.specs.Views.{FrameView}
use Rattle.hub_base.specs.Batching.{handed_back}
use Rattle.hub_steps.specs.Batches.{TakesAllUp}
use Rattle.hub_places.specs.Numbering.{KeepsUp}
use Rattle.hub_slots.proofs.Keeping.{either_way, longer, stopped_between, took_between}
use Rattle.hub_slots.proofs.up_slot.UpSlot.start_all.Goals as goal

pub returns-clause-event : goal.returns-clause-event
returns-clause-event g c =
    took_between (KeepsUp c.args.server)
    (λ s t. TakesAllUp c.args.now s t c.args.batch.now c.start_all-result.new.batch c.args.receipts.now c.start_all-result.new.receipts)
    _ _ c.start_all-result.result.0 c.kept.ensures c.kept-2.ensures c.start_all-result.ensures.took

pub returns-clause-stopped : goal.returns-clause-stopped
returns-clause-stopped g c =
    stopped_between (KeepsUp c.args.server) (λ e f. handed_back e ≡ Some f)
    (λ (f : FrameView) s t. TakesAllUp c.args.now s t c.args.batch.now
    (record c.start_all-result.new.batch { frames = f ∷ c.start_all-result.new.batch.frames }) c.args.receipts.now c.start_all-result.new.receipts)
    _ _ c.start_all-result.result.0 c.kept.ensures c.kept-2.ensures c.start_all-result.ensures.refused

pub returns-clause-grown : goal.returns-clause-grown
returns-clause-grown g c =
    let had = c.args.receipts.now in
    let has = c.start_all-result.new.receipts in
    either_way (λ e f. handed_back e ≡ Some f)
    (TakesAllUp c.args.now _ _ c.args.batch.now c.start_all-result.new.batch had has)
    (length had.list ≤ length has.list) _ c.start_all-result.result.0
    (λ took. longer had has took.1 took.4) (λ (f : FrameView) stopped. longer had has stopped.1 stopped.4)
    c.start_all-result.ensures.took c.start_all-result.ensures.refused
