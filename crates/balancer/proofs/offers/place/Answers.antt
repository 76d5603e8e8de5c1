use Rattle.std.proofs.Common.{rules, sym, subst, Result, Ok, slice_index_or, get_or}
use Rattle.translate_book.specs.Values.{TicketView}
use Rattle.translate_book.specs.declared.refusal.OfferRefusal.{OfferRefusal}
use Rattle.translate_book.specs.declared.placed.Placed.{Placed}
use Rattle.balancer.specs.Order.{IsOrder, loads_of}
use Rattle.balancer.proofs.Trying.{accepted_next, refused_next, candidate_there}
use Rattle.balancer.proofs.offers.place.Goals as goal

pub bounds-candidates-place : goal.bounds-candidates-place
bounds-candidates-place g c =
    candidate_there c.args.candidates.now c.order.result c.as_slice-place-items.result.now c.loop-place.place-index c.order.ensures c.as_slice-place-items.ensures c.loop-place-test.true

pub offset_bounds-candidates-place : goal.offset_bounds-candidates-place
offset_bounds-candidates-place g c = let there = bounds-candidates-place g c in search rules

pub returns-in-Ok : goal.returns-in-Ok
returns-in-Ok g c =
    let there = candidate_there c.args.candidates.now c.order.result c.as_slice-place-items.result.now c.loop-place.place-index c.order.ensures c.as_slice-place-items.ensures c.loop-place-test.true in
    let server = (get_or c.args.candidates.now (slice_index_or c.as_slice-place-items.result.now c.loop-place.place-index 0) (0, 0)).0 in
    let offer = subst (λ (r : Result Placed (OfferRefusal × TicketView)). g.O.Offerer.offers c.loop-place.offerer server c.loop-place.ticket r c.offer.new.self) c.in-Ok.is c.offer.ensures in
    let next = accepted_next g.O.Offerer.offers c.args.candidates.now c.as_slice-place-items.result.now c.loop-place.place-index
    c.loop-place.offerer c.offer.new.self c.loop-place.ticket c.in-Ok.placed c.loop-place-test.true there offer in
    (c.as_slice-place-items.result.now, subst (λ o. IsOrder (loads_of c.args.candidates.now) o) (sym c.as_slice-place-items.ensures) c.order.ensures, c.loop-place.invariant (Ok c.in-Ok.placed) c.offer.new.self next)

pub loop-place-preserved : goal.loop-place-preserved
loop-place-preserved g c = λ result after rest.
    let there = candidate_there c.args.candidates.now c.order.result c.as_slice-place-items.result.now c.loop-place.place-index c.order.ensures c.as_slice-place-items.ensures c.loop-place-test.true in
    let server = (get_or c.args.candidates.now (slice_index_or c.as_slice-place-items.result.now c.loop-place.place-index 0) (0, 0)).0 in
    let offer = subst (λ (r : Result Placed (OfferRefusal × TicketView)). g.O.Offerer.offers c.loop-place.offerer server c.loop-place.ticket r c.offer.new.self) c.in-Err.is c.offer.ensures in
    c.loop-place.invariant result after (
    refused_next g.O.Offerer.offers c.args.candidates.now c.as_slice-place-items.result.now c.loop-place.place-index
    c.loop-place.offerer c.offer.new.self after c.loop-place.ticket c.in-Err.refused c.in-Err.field-0-0 result c.loop-place-test.true there offer rest)
