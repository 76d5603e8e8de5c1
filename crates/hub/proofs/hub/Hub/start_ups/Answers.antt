use Rattle.std.proofs.Common.{◌≡◌, ◌∷◌, [], Some, subst}
use Rattle.std.specs.Prelude.{IfErr, OnOk}
use Rattle.mux_frame.specs.Views.{FrameView}
use Rattle.hub_base.specs.Batching.{Batched, handed_back}
use Rattle.hub.specs.Seats.{Seat}
use Rattle.hub.specs.Batches.{StepsTakenUp}
use Rattle.hub.proofs.Taken.{stopped_up, taken_up}
use Rattle.hub.proofs.hub.Hub.start_ups.Goals as goal

pub returns-clause-took : goal.returns-clause-took
returns-clause-took g c =
    subst (λ (v : Seat). OnOk c.start_all.result.0
    (StepsTakenUp c.args.now c.args.seat.now.number c.args.batch.now.frames c.start_all.new.batch.frames v.receipts c.start_all.new.receipts.list [] c.start_all.new.batch.errands))
    c.seat.view_is
    (subst (λ n. OnOk c.start_all.result.0
    (StepsTakenUp c.args.now n c.args.batch.now.frames c.start_all.new.batch.frames c.seat.inside.receipts.list c.start_all.new.receipts.list [] c.start_all.new.batch.errands))
    c.number-server.ensures
    (subst (λ (b : Batched). OnOk c.start_all.result.0
    (StepsTakenUp c.args.now c.number-server.result b.frames c.start_all.new.batch.frames c.seat.inside.receipts.list c.start_all.new.receipts.list b.errands c.start_all.new.batch.errands))
    c.end.ensures
    (taken_up c.args.now _ c.end.new.self c.start_all.new.batch c.seat.inside.receipts c.start_all.new.receipts c.start_all.result.0
    c.start_all.ensures.event)))

pub returns-clause-refused : goal.returns-clause-refused
returns-clause-refused g c =
    subst (λ (v : Seat). IfErr c.start_all.result.0 (λ e. (f : FrameView) × (handed_back e ≡ Some f)
    × StepsTakenUp c.args.now c.args.seat.now.number c.args.batch.now.frames (f ∷ c.start_all.new.batch.frames) v.receipts c.start_all.new.receipts.list [] c.start_all.new.batch.errands))
    c.seat.view_is
    (subst (λ n. IfErr c.start_all.result.0 (λ e. (f : FrameView) × (handed_back e ≡ Some f)
    × StepsTakenUp c.args.now n c.args.batch.now.frames (f ∷ c.start_all.new.batch.frames) c.seat.inside.receipts.list c.start_all.new.receipts.list [] c.start_all.new.batch.errands))
    c.number-server.ensures
    (subst (λ (b : Batched). IfErr c.start_all.result.0 (λ e. (f : FrameView) × (handed_back e ≡ Some f)
    × StepsTakenUp c.args.now c.number-server.result b.frames (f ∷ c.start_all.new.batch.frames) c.seat.inside.receipts.list c.start_all.new.receipts.list b.errands c.start_all.new.batch.errands))
    c.end.ensures
    (stopped_up c.args.now _ c.end.new.self c.start_all.new.batch c.seat.inside.receipts c.start_all.new.receipts c.start_all.result.0
    c.start_all.ensures.stopped)))
