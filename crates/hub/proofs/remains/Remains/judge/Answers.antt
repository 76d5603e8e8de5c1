use Rattle.std.proofs.Common.{arith, refl, rules, subst, sym}
use Rattle.std.specs.Prelude.{All}
use Rattle.hub_close.specs.declared.count.Class.TheVariants.{Dispatch, Reply}
use Rattle.hub_slots.specs.Histories.{IsKeptDown, IsKeptUp}
use Rattle.hub.specs.Closing.{IsClosed, IsStopped, records_in}
use Rattle.hub.specs.declared.close.CloseFault.TheVariants.{ReceiptMismatch}
use Rattle.hub.proofs.Telling.{counted, of_slices}
use Rattle.hub.proofs.remains.Remains.judge.Goals as goal

pub returns-in-Some-clause-stopped : goal.returns-in-Some-clause-stopped
returns-in-Some-clause-stopped g c =
    let seats = c.args.self.seats in
    of_slices (λ ds us. IsStopped g.L.Ledger.parts c.args.self.rest.parts ds us seats.clients.items seats.servers.items seats.orders
    (ReceiptMismatch c.in-Some.seat c.in-Some.place)) c.args.self.downs.items c.as_slice-down_histories.result.now
    c.args.self.ups.items c.as_slice-up_histories.result.now c.as_slice-down_histories.ensures.value
    c.as_slice-up_histories.ensures.value (search rules, c.in-Ok.ensures.ok.0 refl, c.in-Some.ensures.some)

pub returns-clause-ok : goal.returns-clause-ok
returns-clause-ok g c =
    let downs = c.as_slice-down_histories in
    let ups = c.as_slice-up_histories in
    let totals = c.totals_of-totals in
    let same = c.if-not-is.ensures.yes refl in
    let all = records_in downs.result.now ups.result.now in
    of_slices (λ ds us. IsClosed ds us c.args.self.seats.clients.items c.args.self.seats.servers.items c.args.self.seats.orders
    (record { records = totals.result.records; dispatches = totals.result.dispatches; replies = totals.result.replies })) c.args.self.downs.items
    downs.result.now c.args.self.ups.items ups.result.now downs.ensures.value ups.ensures.value
    (record {
      kept_downs = subst (All IsKeptDown) (sym downs.ensures.value) c.requires.kept.0;
      kept_ups = subst (All IsKeptUp) (sym ups.ensures.value) c.requires.kept.1;
      borne = c.in-Ok.ensures.ok.0 refl;
      down_receipts = c.in_default.ensures.downs;
      up_receipts = c.in_default.ensures.ups;
      amounts = omega (arith, c.args.self.empty, c.join_all.ensures.amount, same.0, same.1, totals.ensures.records);
      balanced = c.if-not-is_balanced.ensures.0 (search rules);
      records = omega (arith, same.1, totals.ensures.records);
      dispatches =
          counted Dispatch all totals.result.dispatches totals.result.records totals.ensures.dispatches
          totals.ensures.records same.1;
      replies =
          counted Reply all totals.result.replies totals.result.records totals.ensures.replies totals.ensures.records
          same.1;
    })

-- Both hold of any error. They stand here so that an Ok in its place is refused at once, with no search.
pub returns-then-not-is-clause-ok : goal.returns-then-not-is-clause-ok
returns-then-not-is-clause-ok g c = tt

pub returns-then-not-is_balanced-clause-ok : goal.returns-then-not-is_balanced-clause-ok
returns-then-not-is_balanced-clause-ok g c = tt
