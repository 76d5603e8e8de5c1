use Rattle.std.proofs.Common.{◌<◌, ℕ, List, Err, Ok, arith, get_or, length, rules, slice_index_or, subst, sym, vec_len}
use Rattle.balancer.specs.Order.{IsOrder, loads_of}
use Rattle.balancer.proofs.Trying.{candidate_there}
use Rattle.hub_delivery.specs.Carrying.{Offers}
use Rattle.hub_delivery.proofs.Carrying.{offered_next, offered_none, offered_taken}
use Rattle.hub_delivery.proofs.slots.Slots.offer.Goals as goal

pub bounds-as_slice-at : goal.bounds-as_slice-at
bounds-as_slice-at g c =
    subst (λ (cs : List (ℕ × ℕ)). slice_index_or c.as_slice-at-items.result.now c.loop-at.at-index 0 < length cs)
    (sym c.as_slice-in-loop-at.ensures.value)
    (candidate_there c.candidates-candidates.result.items c.order.result c.as_slice-at-items.result.now c.loop-at.at-index
    (subst (λ cs. IsOrder (loads_of cs) c.order.result) c.as_slice.ensures.value c.order.ensures)
    c.as_slice-at-items.ensures c.loop-at-test.true)

pub offset_bounds-as_slice-at : goal.offset_bounds-as_slice-at
offset_bounds-as_slice-at g c = let there = bounds-as_slice-at g c in search rules

pub returns-in-Ok-clause-tried : goal.returns-in-Ok-clause-tried
returns-in-Ok-clause-tried g c =
    let candidates = c.candidates-candidates.result.items in
    let places = c.as_slice-at-items.result.now in
    let is = subst (λ cs. IsOrder (loads_of cs) c.order.result) c.as_slice.ensures.value c.order.ensures in
    let there =
    candidate_there candidates c.order.result places c.loop-at.at-index is c.as_slice-at-items.ensures c.loop-at-test.true in
    let offer =
    subst (λ (cs : List (ℕ × ℕ)). Offers c.args.now (vec_len c.args.self.now.ups)
    (get_or cs (slice_index_or places c.loop-at.at-index 0) (0, 0)).0 c.loop-at.ticket (Ok c.in-Ok.placed))
    c.as_slice-in-loop-at.ensures.value c.in-Ok.ensures.offers in (
      candidates,
      places,
      c.candidates-candidates.ensures,
      subst (λ o. IsOrder (loads_of candidates) o) (sym c.as_slice-at-items.ensures) is,
      c.loop-at.invariant.2 (Ok c.in-Ok.placed)
          (offered_taken c.args.now (vec_len c.args.self.now.ups) c.loop-at.ticket candidates places c.loop-at.at-index
          c.in-Ok.placed c.loop-at-test.true there offer),
    )

pub loop-at-preserved : goal.loop-at-preserved
loop-at-preserved g c =
    let candidates = c.candidates-candidates.result.items in
    let places = c.as_slice-at-items.result.now in
    let is = subst (λ cs. IsOrder (loads_of cs) c.order.result) c.as_slice.ensures.value c.order.ensures in
    let there =
    candidate_there candidates c.order.result places c.loop-at.at-index is c.as_slice-at-items.ensures c.loop-at-test.true in
    let offer =
    subst (λ (cs : List (ℕ × ℕ)). Offers c.args.now (vec_len c.args.self.now.ups)
    (get_or cs (slice_index_or places c.loop-at.at-index 0) (0, 0)).0 c.loop-at.ticket (Err (c.in-Err.field-0-0, c.in-Err.refused)))
    c.as_slice-in-loop-at.ensures.value c.in-Err.ensures.offers in (
      omega (arith, c.loop-at.invariant.0, c.offer_at.ensures.more),
      c.in-Err.ensures.claims,
      λ result others. c.loop-at.invariant.2 result
          (offered_next c.args.now (vec_len c.args.self.now.ups) c.loop-at.ticket c.in-Err.refused candidates places c.loop-at.at-index
          c.in-Err.field-0-0 result c.loop-at-test.true there c.in-Err.ensures.back offer others),
    )

pub returns-clause-tried : goal.returns-clause-tried
returns-clause-tried g c =
    let candidates = c.candidates-candidates.result.items in
    let places = c.as_slice-at-items.result.now in
    let is = subst (λ cs. IsOrder (loads_of cs) c.order.result) c.as_slice.ensures.value c.order.ensures in (
      candidates,
      places,
      c.candidates-candidates.ensures,
      subst (λ o. IsOrder (loads_of candidates) o) (sym c.as_slice-at-items.ensures) is,
      c.loop-at.invariant.2 (Err c.loop-at.ticket)
          (offered_none c.args.now (vec_len c.args.self.now.ups) c.loop-at.ticket candidates places c.loop-at.at-index
          (omega (arith, c.loop-at-test.false))),
    )
