use Rattle.std.proofs.Common.{◌≡◌, ◌∷◌, [], Some, arith, ap, length, sym, subst, subst₂, ◌∙◌}
use Rattle.std.specs.Prelude.{IfErr, OnOk}
use Rattle.mux_frame.specs.Views.{FrameView}
use Rattle.hub_base.specs.Batching.{Batched, handed_back}
use Rattle.hub.specs.Seats.{Seat}
use Rattle.hub_delivery.specs.Losing.{FailsAll}
use Rattle.hub.specs.Batches.{HandsOn, RunsUp, StepsTakenUp}
use Rattle.hub.proofs.Taken.{counts_up, counts_stopped_up, none_counts_up, none_counts_stopped_up, none_left, none_runs_up, none_stops_up, runs_up, runs_stopped_up, still_none_up, still_some_up}
use Rattle.hub.proofs.hub.Hub.run_server.Goals as goal

pub returns-then-len-eq0-clause-event : goal.returns-then-len-eq0-clause-event
returns-then-len-eq0-clause-event g c =
    none_runs_up c.args.now g.L.HubLedger.sessions g.L.HubLedger.servers c.args.self.now.slots.server_window c.args.seat.now.number _ _ _ _ [] c.start_ups-result.new.batch.errands _ _
    c.start_ups-result.result.0 c.start_ups-result.ensures.took
    (ap (λ (b : Batched). b.errands) (sym c.batch.view_is) ∙ none_left c.batch.inside.errands.items c.len.result c.len.ensures c.if-len-eq0.true)
    (ap (λ (s : Seat). s.orders) c.start_ups-result.ensures.same.0)

pub returns-then-len-eq0-clause-stopped : goal.returns-then-len-eq0-clause-stopped
returns-then-len-eq0-clause-stopped g c =
    none_stops_up c.args.now g.L.HubLedger.sessions g.L.HubLedger.servers c.args.self.now.slots.server_window c.args.seat.now.number _ _ _ _ [] c.start_ups-result.new.batch.errands _ _
    c.start_ups-result.result.0 c.start_ups-result.ensures.refused
    (ap (λ (b : Batched). b.errands) (sym c.batch.view_is) ∙ none_left c.batch.inside.errands.items c.len.result c.len.ensures c.if-len-eq0.true)
    (ap (λ (s : Seat). s.orders) c.start_ups-result.ensures.same.0)

pub returns-then-len-eq0-clause-took : goal.returns-then-len-eq0-clause-took
returns-then-len-eq0-clause-took g c =
    none_counts_up c.args.now c.args.seat.now.number _ _ c.args.seat.now c.start_ups-result.new.seat [] c.start_ups-result.new.batch.errands c.start_ups-result.result.0 c.start_ups-result.ensures.took
    (ap (λ (b : Batched). b.errands) (sym c.batch.view_is) ∙ none_left c.batch.inside.errands.items c.len.result c.len.ensures c.if-len-eq0.true)
    (ap (λ (s : Seat). s.amount) c.start_ups-result.ensures.same.0)

pub returns-then-len-eq0-clause-refused : goal.returns-then-len-eq0-clause-refused
returns-then-len-eq0-clause-refused g c =
    none_counts_stopped_up c.args.now c.args.seat.now.number _ _ c.args.seat.now c.start_ups-result.new.seat [] c.start_ups-result.new.batch.errands c.start_ups-result.result.0
    c.start_ups-result.ensures.refused
    (ap (λ (b : Batched). b.errands) (sym c.batch.view_is) ∙ none_left c.batch.inside.errands.items c.len.result c.len.ensures c.if-len-eq0.true)
    (ap (λ (s : Seat). s.amount) c.start_ups-result.ensures.same.0)

pub returns-then-len-eq0-clause-still : goal.returns-then-len-eq0-clause-still
returns-then-len-eq0-clause-still g c =
    still_none_up c.args.now c.args.seat.now.number _ _ c.args.seat.now c.start_ups-result.new.seat c.start_ups-result.new.batch.errands c.start_ups-result.result.0 c.start_ups-result.ensures.refused
    (ap (λ (b : Batched). b.errands) (sym c.batch.view_is) ∙ none_left c.batch.inside.errands.items c.len.result c.len.ensures c.if-len-eq0.true)
    c.start_ups-result.ensures.same.0

pub returns-clause-event : goal.returns-clause-event
returns-clause-event g c =
    subst₂ (λ b d. OnOk c.start_ups-result.result.0 (RunsUp c.args.now g.L.HubLedger.sessions g.L.HubLedger.servers c.args.self.now.slots.server_window c.args.seat.now.number
    c.args.batch.now.frames b c.args.seat.now.receipts d [] c.args.seat.now.orders c.hand_servers_on.new.seat.orders))
    (sym (ap (λ (b : Batched). b.frames) c.hand_servers_on.ensures.end)) (sym (ap (λ (s : Seat). s.receipts) c.hand_servers_on.ensures.same))
    (runs_up c.args.now g.L.HubLedger.sessions g.L.HubLedger.servers c.args.self.now.slots.server_window c.args.seat.now.number _ _ _ _ [] c.start_ups-result.new.batch.errands _ _ c.start_ups-result.result.0
    c.start_ups-result.ensures.took
    (subst (λ (s : Seat). HandsOn c.args.now g.L.HubLedger.sessions g.L.HubLedger.servers (Some s.number) s.orders c.hand_servers_on.new.seat.orders
    c.start_ups-result.new.batch.errands (FailsAll g.L.HubLedger.sessions g.L.HubLedger.servers c.args.self.now.slots.server_window s.number)) c.start_ups-result.ensures.same.0 c.hand_servers_on.ensures.handed))

pub returns-clause-stopped : goal.returns-clause-stopped
returns-clause-stopped g c =
    subst₂ (λ b d. IfErr c.start_ups-result.result.0 (λ e. (f : FrameView) × (handed_back e ≡ Some f) × RunsUp c.args.now g.L.HubLedger.sessions g.L.HubLedger.servers c.args.self.now.slots.server_window c.args.seat.now.number
    c.args.batch.now.frames (f ∷ b) c.args.seat.now.receipts d [] c.args.seat.now.orders c.hand_servers_on.new.seat.orders))
    (sym (ap (λ (b : Batched). b.frames) c.hand_servers_on.ensures.end)) (sym (ap (λ (s : Seat). s.receipts) c.hand_servers_on.ensures.same))
    (runs_stopped_up c.args.now g.L.HubLedger.sessions g.L.HubLedger.servers c.args.self.now.slots.server_window c.args.seat.now.number _ _ _ _ [] c.start_ups-result.new.batch.errands _ _ c.start_ups-result.result.0
    c.start_ups-result.ensures.refused
    (subst (λ (s : Seat). HandsOn c.args.now g.L.HubLedger.sessions g.L.HubLedger.servers (Some s.number) s.orders c.hand_servers_on.new.seat.orders
    c.start_ups-result.new.batch.errands (FailsAll g.L.HubLedger.sessions g.L.HubLedger.servers c.args.self.now.slots.server_window s.number)) c.start_ups-result.ensures.same.0 c.hand_servers_on.ensures.handed))

pub returns-clause-took : goal.returns-clause-took
returns-clause-took g c =
    counts_up c.args.now c.args.seat.now.number _ _ c.args.seat.now c.hand_servers_on.new.seat [] c.start_ups-result.new.batch.errands c.start_ups-result.result.0
    (subst₂ (λ b d. OnOk c.start_ups-result.result.0 (StepsTakenUp c.args.now c.args.seat.now.number c.args.batch.now.frames b c.args.seat.now.receipts d
    [] c.start_ups-result.new.batch.errands)) (sym (ap (λ (b : Batched). b.frames) c.hand_servers_on.ensures.end)) (sym (ap (λ (s : Seat). s.receipts) c.hand_servers_on.ensures.same)) c.start_ups-result.ensures.took)
    (omega (
      arith,
      c.hand_servers_on.ensures.more,
      c.saturating_sub-made.ensures,
      c.receipt_count.ensures,
      c.receipt_count-before.ensures,
      ap (λ (s : Seat). length s.receipts) c.hand_servers_on.ensures.same,
      ap (λ (s : Seat). s.amount) c.start_ups-result.ensures.same.0,
    ))

pub returns-clause-refused : goal.returns-clause-refused
returns-clause-refused g c =
    counts_stopped_up c.args.now c.args.seat.now.number _ _ c.args.seat.now c.hand_servers_on.new.seat [] c.start_ups-result.new.batch.errands c.start_ups-result.result.0
    (subst₂ (λ b d. IfErr c.start_ups-result.result.0 (λ e. (f : FrameView) × (handed_back e ≡ Some f)
    × StepsTakenUp c.args.now c.args.seat.now.number c.args.batch.now.frames (f ∷ b) c.args.seat.now.receipts d [] c.start_ups-result.new.batch.errands))
    (sym (ap (λ (b : Batched). b.frames) c.hand_servers_on.ensures.end)) (sym (ap (λ (s : Seat). s.receipts) c.hand_servers_on.ensures.same)) c.start_ups-result.ensures.refused)
    (omega (
      arith,
      c.hand_servers_on.ensures.more,
      c.saturating_sub-made.ensures,
      c.receipt_count.ensures,
      c.receipt_count-before.ensures,
      ap (λ (s : Seat). length s.receipts) c.hand_servers_on.ensures.same,
      ap (λ (s : Seat). s.amount) c.start_ups-result.ensures.same.0,
    ))

pub returns-clause-still : goal.returns-clause-still
returns-clause-still g c =
    still_some_up c.args.now c.args.seat.now.number _ _ c.args.seat.now c.hand_servers_on.new.seat c.start_ups-result.new.batch.errands c.start_ups-result.result.0
    (subst₂ (λ b d. IfErr c.start_ups-result.result.0 (λ e. (f : FrameView) × (handed_back e ≡ Some f)
    × StepsTakenUp c.args.now c.args.seat.now.number c.args.batch.now.frames (f ∷ b) c.args.seat.now.receipts d [] c.start_ups-result.new.batch.errands))
    (sym (ap (λ (b : Batched). b.frames) c.hand_servers_on.ensures.end)) (sym (ap (λ (s : Seat). s.receipts) c.hand_servers_on.ensures.same)) c.start_ups-result.ensures.refused)
    (λ none. c.if-len-eq0.false (c.len.ensures ∙ ap (λ (b : Batched). length b.errands) c.batch.view_is ∙ ap (λ es. length es) none))
