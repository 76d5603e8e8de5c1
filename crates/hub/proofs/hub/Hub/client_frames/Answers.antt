use Rattle.std.proofs.Common.{◌≡◌, ◌∷◌, [], Some, subst}
use Rattle.std.specs.Prelude.{IfErr, OnOk}
use Rattle.mux_frame.specs.Views.{FrameView}
use Rattle.hub_base.specs.Batching.{handed_back}
use Rattle.hub.specs.Seats.{Seat}
use Rattle.hub.specs.Batches.{RunsDown}
use Rattle.hub.proofs.hub.Hub.client_frames.Goals as goal

pub returns-clause-event : goal.returns-clause-event
returns-clause-event g c =
    subst (λ (s : Seat). OnOk c.run_client.result (RunsDown c.args.now g.L.HubLedger.sessions g.L.HubLedger.servers c.args.self.now.slots.window s.number
    c.args.batch.now.frames c.run_client.new.batch.frames s.receipts c.run_client.new.seat.receipts []
    s.orders c.run_client.new.seat.orders)) c.seat.view_is c.run_client.ensures.event

pub returns-clause-stopped : goal.returns-clause-stopped
returns-clause-stopped g c =
    subst (λ (s : Seat). IfErr c.run_client.result (λ e. (f : FrameView) × (handed_back e ≡ Some f)
    × RunsDown c.args.now g.L.HubLedger.sessions g.L.HubLedger.servers c.args.self.now.slots.window s.number
    c.args.batch.now.frames (f ∷ c.run_client.new.batch.frames) s.receipts c.run_client.new.seat.receipts []
    s.orders c.run_client.new.seat.orders)) c.seat.view_is c.run_client.ensures.stopped

pub returns-clause-same : goal.returns-clause-same
returns-clause-same g c =
    subst (λ (s : Seat). (c.run_client.new.seat.number ≡ s.number) × (c.run_client.new.batch.room ≡ c.args.batch.now.room)) c.seat.view_is
    c.run_client.ensures.same
