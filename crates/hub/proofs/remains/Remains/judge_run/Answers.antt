use Rattle.std.proofs.Common.{◌≡◌, ◌∙◌, arith, refl, rules}
use Rattle.hub.specs.declared.close.CloseFault.TheVariants.{Miscount, ReceiptMismatch, ValueDropped}
use Rattle.hub.specs.Closing.{made_by}
use Rattle.hub.specs.Rests.{TakesRests}
use Rattle.hub.specs.Run.{AreRight, EndsBy, IsClosedRun, IsStoppedRun}
use Rattle.hub.proofs.Ending.{all_made, closed_run, few, miscounted}
use Rattle.hub.proofs.Telling.{of_slices}
use Rattle.hub.proofs.remains.Remains.judge_run.Goals as goal

pub returns-in-Some-clause-stopped : goal.returns-in-Some-clause-stopped
returns-in-Some-clause-stopped g c =
    let seats = c.args.self.seats in
    of_slices (λ ds us. IsStoppedRun g.L.Ledger.parts c.args.self.rest.parts c.args.audit.now ds us seats.clients.items
    seats.servers.items seats.orders (ReceiptMismatch c.in-Some.seat c.in-Some.place)) c.args.self.downs.items
    c.as_slice-down_histories.result.now c.args.self.ups.items c.as_slice-up_histories.result.now
    c.as_slice-down_histories.ensures.value c.as_slice-up_histories.ensures.value
    (search rules, c.in-Some.ensures.some)

pub returns-in-Err-clause-stopped : goal.returns-in-Err-clause-stopped
returns-in-Err-clause-stopped g c =
    let seats = c.args.self.seats in
    of_slices (λ ds us. AreRight g.L.Ledger.parts c.args.self.rest.parts c.args.audit.now ds us seats.clients.items seats.servers.items
    × EndsBy c.in-Err.fault c.args.audit.now ds us) c.args.self.downs.items c.as_slice-down_histories.result.now
    c.args.self.ups.items c.as_slice-up_histories.result.now c.as_slice-down_histories.ensures.value
    c.as_slice-up_histories.ensures.value (search rules, search rules)

pub returns-then-not-is-clause-stopped : goal.returns-then-not-is-clause-stopped
returns-then-not-is-clause-stopped g c =
    let seats = c.args.self.seats in
    let made = made_by seats.clients.items seats.servers.items seats.orders in
    let b = c.end.new.audit in
    let amount : c.join_all.new.all.amount ≡ made = omega (arith, c.join_all.ensures.amount, c.args.self.empty) in
    of_slices (λ ds us. IsStoppedRun g.L.Ledger.parts c.args.self.rest.parts c.args.audit.now ds us seats.clients.items
    seats.servers.items seats.orders Miscount) c.args.self.downs.items c.as_slice-down_histories.result.now
    c.args.self.ups.items c.as_slice-up_histories.result.now c.as_slice-down_histories.ensures.value
    c.as_slice-up_histories.ensures.value (
      search rules,
      (
        b,
        c.in-Ok.ensures.ok refl,
        miscounted b c.records.result made c.records.ensures (λ small same. c.if-not-is.ensures.no refl small (amount ∙ same)),
      ),
    )

pub returns-then-not-is_balanced-clause-stopped : goal.returns-then-not-is_balanced-clause-stopped
returns-then-not-is_balanced-clause-stopped g c =
    let seats = c.args.self.seats in
    let b = c.end.new.audit in
    let is = c.if-not-is.ensures.yes refl in
    let small = few b c.records.result c.records.ensures is.1 in
    of_slices (λ ds us. IsStoppedRun g.L.Ledger.parts c.args.self.rest.parts c.args.audit.now ds us seats.clients.items
    seats.servers.items seats.orders ValueDropped) c.args.self.downs.items c.as_slice-down_histories.result.now
    c.args.self.ups.items c.as_slice-up_histories.result.now c.as_slice-down_histories.ensures.value
    c.as_slice-up_histories.ensures.value (
      search rules,
      (
        b,
        c.in-Ok.ensures.ok refl,
        all_made b c.records.result _ c.records.ensures (omega (arith, c.join_all.ensures.amount, c.args.self.empty, is.0)) is.1,
        λ hs covers. c.is_balanced.ensures.no c.if-not-is_balanced.true (c.in-Ok.ensures.fine refl) hs covers (small hs covers),
      ),
    )

pub returns-clause-ok : goal.returns-clause-ok
returns-clause-ok g c =
    let seats = c.args.self.seats in
    let b = c.end.new.audit in
    let is = c.if-not-is.ensures.yes refl in
    let small = few b c.records.result c.records.ensures is.1 in
    let borne = c.in-Ok.ensures.ok refl in
    of_slices (λ ds us. TakesRests c.args.audit.now ds us b
    × IsClosedRun c.args.audit.now b ds us seats.clients.items seats.servers.items seats.orders c.closed_by.result)
    c.args.self.downs.items c.as_slice-down_histories.result.now c.args.self.ups.items c.as_slice-up_histories.result.now
    c.as_slice-down_histories.ensures.value c.as_slice-up_histories.ensures.value (
      borne.taken,
      closed_run c.args.audit.now b c.as_slice-down_histories.result.now c.as_slice-up_histories.result.now
          seats.clients.items seats.servers.items seats.orders
          c.closed_by.result c.records.result c.in_default.ensures.downs c.in_default.ensures.ups borne.bear_out c.records.ensures
          (omega (arith, c.join_all.ensures.amount, c.args.self.empty, is.0)) is.1
          (λ hs covers. c.is_balanced.ensures.yes c.if-not-is_balanced.false hs covers (small hs covers)) c.closed_by.ensures,
    )
