use Rattle.std.proofs.Common.{◌≡◌, ◌∷◌, [], Some, subst}
use Rattle.std.specs.Prelude.{IfErr, OnOk}
use Rattle.mux_frame.specs.Views.{FrameView}
use Rattle.hub_base.specs.Batching.{handed_back}
use Rattle.hub.specs.Seats.{Seat}
use Rattle.hub.specs.Batches.{RunsUp}
use Rattle.hub.proofs.hub.Hub.server_frames.Goals as goal

pub returns-clause-event : goal.returns-clause-event
returns-clause-event g c =
    subst (λ (s : Seat). OnOk c.run_server.result (RunsUp c.args.now g.L.HubLedger.sessions g.L.HubLedger.servers c.args.self.now.slots.server_window s.number
    c.args.batch.now.frames c.run_server.new.batch.frames s.receipts c.run_server.new.seat.receipts []
    s.orders c.run_server.new.seat.orders)) c.seat.view_is c.run_server.ensures.event

pub returns-clause-stopped : goal.returns-clause-stopped
returns-clause-stopped g c =
    subst (λ (s : Seat). IfErr c.run_server.result (λ e. (f : FrameView) × (handed_back e ≡ Some f)
    × RunsUp c.args.now g.L.HubLedger.sessions g.L.HubLedger.servers c.args.self.now.slots.server_window s.number
    c.args.batch.now.frames (f ∷ c.run_server.new.batch.frames) s.receipts c.run_server.new.seat.receipts []
    s.orders c.run_server.new.seat.orders)) c.seat.view_is c.run_server.ensures.stopped

pub returns-clause-same : goal.returns-clause-same
returns-clause-same g c =
    subst (λ (s : Seat). (c.run_server.new.seat.number ≡ s.number) × (c.run_server.new.batch.room ≡ c.args.batch.now.room)) c.seat.view_is
    c.run_server.ensures.same
