-- The candidates that are left to try.
use Rattle.std.proofs.Common.{◌≡◌, ℕ, ◌+◌, ◌<◌, List, ◌∷◌, length, drop, refl, ap, ◌∙◌, sym, subst, get_or, slice_index, add-one, Result, Ok, Err, inl, inr}
use Rattle.std.proofs.Math.Seq.{drop-cons}
use Rattle.std.proofs.lemmas.List.{get_or-map, length-map}
use Rattle.balancer.specs.Order.{IsOrder, loads_of, servers_in}
use Rattle.balancer.specs.Offers.{Offered}
use Rattle.balancer.proofs.Sorting.{order_within}

-- the next server, and those after it
pub next_server : (candidates : List (ℕ × ℕ)) (order : List ℕ) (i : ℕ) (d : ℕ × ℕ) → i < length order → slice_index order i < length candidates
    → servers_in candidates (drop i order) ≡ (get_or candidates (slice_index order i) d).0 ∷ servers_in candidates (drop (i + 1) order)
next_server candidates order i d within there =
    let here : drop i order ≡ slice_index order i ∷ drop (i + 1) order = rw add-one (drop-cons order i 0 within) in
    ap (servers_in candidates) here
    ∙ ap (λ s. s ∷ servers_in candidates (drop (i + 1) order)) (get_or-map (λ (c : ℕ × ℕ). c.0) candidates (slice_index order i) d 0 there)

-- what comes of the tries from place i on, after a try that was accepted
pub accepted_next : {S T P C : Type 0} (offers : S → ℕ → T → Result P (C × T) → S → Type 0) (candidates : List (ℕ × ℕ)) (order : List ℕ) (i : ℕ)
    (before after : S) (value : T) (placed : P) → i < length order → slice_index order i < length candidates
    → offers before (get_or candidates (slice_index order i) (0, 0)).0 value (Ok placed) after
    → Offered offers (servers_in candidates (drop i order)) before value (Ok placed) after
accepted_next offers candidates order i before after value placed within there offer =
    subst (λ ss. Offered offers ss before value (Ok placed) after) (sym (next_server candidates order i (0, 0) within there)) (inl (placed, refl, offer))

-- and after one that was refused
pub refused_next : {S T P C : Type 0} (offers : S → ℕ → T → Result P (C × T) → S → Type 0) (candidates : List (ℕ × ℕ)) (order : List ℕ) (i : ℕ)
    (before between after : S) (value back : T) (why : C) (result : Result P T) → i < length order → slice_index order i < length candidates
    → offers before (get_or candidates (slice_index order i) (0, 0)).0 value (Err (why, back)) between
    → Offered offers (servers_in candidates (drop (i + 1) order)) between back result after
    → Offered offers (servers_in candidates (drop i order)) before value result after
refused_next offers candidates order i before between after value back why result within there offer rest =
    subst (λ ss. Offered offers ss before value result after) (sym (next_server candidates order i (0, 0) within there)) (inr (why, back, between, offer, rest))

-- the places that are tried are those of candidates
pub candidate_there : (candidates : List (ℕ × ℕ)) (order tried : List ℕ) (i : ℕ) → IsOrder (loads_of candidates) order → tried ≡ order
    → i < length tried → slice_index tried i < length candidates
candidate_there candidates order tried i is same within =
    rw same (
    subst (λ n. slice_index order i < n) (length-map candidates (λ (k : ℕ × ℕ). k.1)) (
    order_within (loads_of candidates) order is i (rw same at within)))
