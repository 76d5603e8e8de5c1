use Rattle.std.proofs.Common.{◌∷◌, ◌++◌, [], ap, sym, subst, ◌∙◌}
use Rattle.hub_close.specs.declared.receipt.Stub.{Stub}
use Rattle.hub.specs.Seats.{Seat}
use Rattle.kept_session.specs.RecordedDown.{IsRecordOfDown}
use Rattle.hub.specs.Batches.{RunsDown, TakesCounted}
use Rattle.hub.proofs.Taken.{one_run, one_taken}
use Rattle.hub.proofs.hub.Hub.client_frame.Goals as goal

pub returns-clause-event : goal.returns-clause-event
returns-clause-event g c =
    one_run (λ a b. RunsDown c.args.now g.L.HubLedger.sessions g.L.HubLedger.servers c.args.self.now.slots.window c.args.seat.now.number
    a b c.args.seat.now.receipts c.run_client.new.seat.receipts [] c.args.seat.now.orders c.run_client.new.seat.orders)
    c.seat.inside.one c.push.new.self c.run_client.new.batch c.args.frame c.seat.invariant.2 c.in-Ok.ensures.ok c.in_ok-run_client.ensures.all
    (subst (λ (s : Seat). RunsDown c.args.now g.L.HubLedger.sessions g.L.HubLedger.servers c.args.self.now.slots.window s.number
    c.push.new.self.frames c.run_client.new.batch.frames s.receipts c.run_client.new.seat.receipts [] s.orders c.run_client.new.seat.orders)
    c.seat.view_is c.in_ok-run_client.ensures.event)

pub returns-clause-receipt : goal.returns-clause-receipt
returns-clause-receipt g c =
    let one = one_taken IsRecordOfDown c.args.frame c.args.seat.now c.run_client.new.seat
    (one_run (λ a b. TakesCounted IsRecordOfDown a b c.args.seat.now c.run_client.new.seat) c.seat.inside.one c.push.new.self c.run_client.new.batch c.args.frame
    c.seat.invariant.2 c.in-Ok.ensures.ok c.in_ok-run_client.ensures.all
    (subst (λ (s : Seat). TakesCounted IsRecordOfDown c.push.new.self.frames c.run_client.new.batch.frames s c.run_client.new.seat) c.seat.view_is c.in_ok-run_client.ensures.took)) in
    one.1 ∙ ap (λ (r : Stub). c.args.seat.now.receipts ++ r ∷ []) (sym (c.of.ensures.stub ∙ c.last.ensures _ one.0 (ap (λ (s : Seat). s.receipts) c.seat-2.view_is ∙ one.1)))

pub returns-clause-amount : goal.returns-clause-amount
returns-clause-amount g c =
    let one = one_taken IsRecordOfDown c.args.frame c.args.seat.now c.run_client.new.seat
    (one_run (λ a b. TakesCounted IsRecordOfDown a b c.args.seat.now c.run_client.new.seat) c.seat.inside.one c.push.new.self c.run_client.new.batch c.args.frame
    c.seat.invariant.2 c.in-Ok.ensures.ok c.in_ok-run_client.ensures.all
    (subst (λ (s : Seat). TakesCounted IsRecordOfDown c.push.new.self.frames c.run_client.new.batch.frames s c.run_client.new.seat) c.seat.view_is c.in_ok-run_client.ensures.took)) in one.3

pub returns-clause-kept : goal.returns-clause-kept
returns-clause-kept g c =
    let one = one_taken IsRecordOfDown c.args.frame c.args.seat.now c.run_client.new.seat
    (one_run (λ a b. TakesCounted IsRecordOfDown a b c.args.seat.now c.run_client.new.seat) c.seat.inside.one c.push.new.self c.run_client.new.batch c.args.frame
    c.seat.invariant.2 c.in-Ok.ensures.ok c.in_ok-run_client.ensures.all
    (subst (λ (s : Seat). TakesCounted IsRecordOfDown c.push.new.self.frames c.run_client.new.batch.frames s c.run_client.new.seat) c.seat.view_is c.in_ok-run_client.ensures.took)) in
    subst (λ (r : Stub). IsRecordOfDown c.args.frame.frame r.kept) (sym (c.of.ensures.stub ∙ c.last.ensures _ one.0 (ap (λ (s : Seat). s.receipts) c.seat-2.view_is ∙ one.1))) one.2
