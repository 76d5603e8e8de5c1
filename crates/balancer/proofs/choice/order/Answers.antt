use Rattle.std.proofs.Common.{◌≡◌, ℕ, [], ◌∷◌, ◌++◌, length, take_all, get_or, ap, ◌∙◌, sym, arith, rules, map, subst}
use Rattle.std.specs.List.{range_with_len}
use Rattle.std.specs.List.Sorted.{IsPermutation}
use Rattle.std.proofs.lemmas.List.{get_or-map, length-map}
use Rattle.std.proofs.lemmas.List.FromFn.{map-range_with_len_more, length-map-range_with_len}
use Rattle.arrayvec.proofs.ArrayVecLemmas.{items-with_items}
use Rattle.balancer.specs.Order.{loads_of}
use Rattle.balancer.proofs.Sorting.{key_at, order_of_sorted}
use Rattle.balancer.proofs.choice.order.Goals as goal

pub push-requires : goal.push-requires
push-requires c =
    let held = ap length c.loop-place.invariant ∙ length-map-range_with_len (key_at (loads_of c.args.candidates.now)) 0 c.loop-place.place in
    omega arith

pub loop-place-preserved : goal.loop-place-preserved
loop-place-preserved c =
    let keys = map (key_at (loads_of c.args.candidates.now)) (range_with_len 0 c.loop-place.place) in
    c.push.ensures.items
    ∙ ap (λ ks. ks ++ ((get_or c.args.candidates.now c.loop-place.place (0, 0)).1, c.loop-place.place) ∷ []) c.loop-place.invariant
    ∙ ap (λ load. keys ++ (load, c.loop-place.place) ∷ []) (sym (get_or-map (λ (k : ℕ × ℕ). k.1) c.args.candidates.now c.loop-place.place (0, 0) 0 c.loop-place-test.true))
    ∙ sym (map-range_with_len_more (key_at (loads_of c.args.candidates.now)) 0 c.loop-place.place c.loop-place.place (omega arith))

pub returns : goal.returns
returns c =
    let loads = loads_of c.args.candidates.now in
    let count : c.loop-place.place ≡ length loads = omega (arith, length-map c.args.candidates.now (λ (k : ℕ × ℕ). k.1)) in
    let sorted : c.as_slice-place-items.result.now ≡ c.sort_unstable.new.self =
    c.as_slice-place-items.ensures.value ∙ items-with_items c.loop-place.keys c.sort_unstable.new.self (search rules) in
    let same : IsPermutation (map (key_at loads) (range_with_len 0 c.loop-place.place)) c.sort_unstable.new.self =
    subst (λ ks. IsPermutation ks c.sort_unstable.new.self) (c.deref_mut.ensures.value ∙ c.loop-place.invariant) c.sort_unstable.ensures.permutation in
    let whole = take_all c.loop-place-2.place-index c.as_slice-place-items.result.now c.loop-place-2-test.false in
    rw (c.loop-place-2.invariant, whole, sorted) (order_of_sorted loads c.loop-place.place c.sort_unstable.new.self count same c.sort_unstable.ensures.sorted)
