-- The places of keys that were sorted.
use Rattle.std.proofs.Common.{◌≡◌, ◌≢◌, ℕ, suc, zero, ◌+◌, ◌<◌, ◌≤◌, ◌==◌, false, cond, List, ◌∷◌, map, length, refl, ap, sym, arith, ◌⊎◌, inl, inr, get_or, slice_index, rules, subst}
use Rattle.std.specs.List.{range_with_len, sum_by, All}
use Rattle.std.specs.List.Sorted.{IsPermutation, IsSorted}
use Rattle.std.specs.Ordering.{nat_cmp, ordering_then, is_lt}
use Rattle.std.specs.declared.cmp.Ordering.{Ordering}
use Rattle.std.proofs.lemmas.List.Sorted.{IsPermutation-map, IsPermutation-sym, All-permutation, sum_by-IsPermutation}
use Rattle.std.proofs.lemmas.List.Sums.{sum_by-cons, sum_by_more, sum_by-take-le}
use Rattle.std.proofs.lemmas.List.{get_or-map, length-map}
use Rattle.std.proofs.lemmas.List.FromFn.{length-range_with_len, get_or-range_with_len}
use Rattle.std.proofs.lemmas.Bool.{cases_order}
use Rattle.std.proofs.lemmas.Bool.Decides.{nat_tests, eqb_tells}
use Rattle.balancer.specs.Order.{IsOrder, IsBefore}

-- the key of a place: its load, then the place
abbrev pub key_at : List ℕ → ℕ → ℕ × ℕ
key_at loads place = (slice_index loads place, place)

-- the order of keys
abbrev pub key_cmp : ℕ × ℕ → ℕ × ℕ → Ordering
key_cmp a b = ordering_then (nat_cmp a.0 b.0) (nat_cmp a.1 b.1)

-- 1 for a key of this place
abbrev at_place : ℕ → ℕ × ℕ → ℕ
at_place p k = cond (k.1 == p) 1 0

-- the places of the keys
places_of_keys : (loads : List ℕ) (a n : ℕ) → map (λ k. k.1) (map (key_at loads) (range_with_len a n)) ≡ range_with_len a n
places_of_keys loads a zero = refl
places_of_keys loads a (suc n) = ap (λ ps. a ∷ ps) (places_of_keys loads (a + 1) n)

-- each key has the load of its place
loads_of_keys : (loads : List ℕ) (a n : ℕ) → All (λ k. k.0 ≡ slice_index loads k.1) (map (key_at loads) (range_with_len a n))
loads_of_keys loads a zero = search rules
loads_of_keys loads a (suc n) = let rest = loads_of_keys loads (a + 1) n in search rules

-- no key stands at a place before the first
none_before : (loads : List ℕ) (p a n : ℕ) → p < a → sum_by (at_place p) (map (key_at loads) (range_with_len a n)) ≡ 0
none_before loads p a zero lt = refl
none_before loads p a (suc n) lt =
    let rest : sum_by (at_place p) (map (key_at loads) (range_with_len (a + 1) n)) ≡ 0 = none_before loads p (a + 1) n (omega arith) in
    let here : at_place p (key_at loads a) ≡ 0 = grind (arith, nat_tests) in
    let parts : sum_by (at_place p) (map (key_at loads) (range_with_len a (suc n))) ≡ at_place p (key_at loads a) + sum_by (at_place p) (map (key_at loads) (range_with_len (a + 1) n))
    = sum_by-cons (at_place p) (key_at loads a) (map (key_at loads) (range_with_len (a + 1) n)) in
    omega arith

once_more : (p a rest all : ℕ) → all ≡ cond (a == p) 1 0 + rest → rest ≤ 1 → (p < a + 1 → rest ≡ 0) → all ≤ 1
once_more p a rest all parts most none = elim (eqb_tells a p) [
  | inl same ↦ let r : rest ≡ 0 = none (omega arith) in let h : all ≡ 1 + rest = subst (λ b. all ≡ cond b 1 0 + rest) same.0 parts in omega arith
  | inr other ↦ let h : all ≡ 0 + rest = subst (λ b. all ≡ cond b 1 0 + rest) other.0 parts in omega arith
]

-- each place has one key at most
once : (loads : List ℕ) (p a n : ℕ) → sum_by (at_place p) (map (key_at loads) (range_with_len a n)) ≤ 1
once loads p a zero = omega arith
once loads p a (suc n) =
    let keys = map (key_at loads) (range_with_len (a + 1) n) in
    let parts : sum_by (at_place p) (key_at loads a ∷ keys) ≡ at_place p (key_at loads a) + sum_by (at_place p) keys
    = sum_by-cons (at_place p) (key_at loads a) keys in
    let rest : sum_by (at_place p) keys ≤ 1 = once loads p (a + 1) n in
    let none : p < a + 1 → sum_by (at_place p) keys ≡ 0 = none_before loads p (a + 1) n in
    once_more p a _ _ parts rest none

-- two neighbours have different places
differ : (p : ℕ) (keys : List (ℕ × ℕ)) (k : ℕ) (d : ℕ × ℕ) → sum_by (at_place p) keys ≤ 1 → k + 1 < length keys
    → (get_or keys k d).1 ≡ p → (get_or keys (k + 1) d).1 ≢ p
differ p keys k d most within first second =
    let here = sum_by_more (at_place p) keys k d (omega arith) in
    let next = sum_by_more (at_place p) keys (k + 1) d within in
    let all = sum_by-take-le (at_place p) keys (k + 1 + 1) in
    let one : at_place p (get_or keys k d) ≡ 1 = grind (arith, nat_tests) in
    let other : at_place p (get_or keys (k + 1) d) ≡ 1 = grind (arith, nat_tests) in
    omega arith

less_by_load : (a b : ℕ × ℕ) → b.0 < a.0 → is_lt (key_cmp b a) ≡ false → ⊥
less_by_load a b less not_less = grind (arith, nat_tests)

less_by_place : (a b : ℕ × ℕ) → b.0 ≡ a.0 → b.1 < a.1 → is_lt (key_cmp b a) ≡ false → ⊥
less_by_place a b same less not_less = grind (arith, nat_tests)

-- what a sort says of two neighbours
greater : (a b : ℕ × ℕ) → is_lt (key_cmp b a) ≡ false → b.1 ≢ a.1 → (a.0 < b.0) ⊎ ((a.0 ≡ b.0) × (a.1 < b.1))
greater a b not_less other = elim (cases_order a.0 b.0) [
  | inl same ↦ elim (cases_order a.1 b.1) [
    | inl equal ↦ absurd (other (sym equal))
    | inr (inl less) ↦ inr (same, less)
    | inr (inr more) ↦ absurd (less_by_place a b (sym same) more not_less)
  ]
  | inr (inl less) ↦ inl less
  | inr (inr more) ↦ absurd (less_by_load a b more not_less)
]

-- each next key's place is tried later
next_greater : (loads : List ℕ) (n : ℕ) (sorted : List (ℕ × ℕ)) → IsPermutation (map (key_at loads) (range_with_len 0 n)) sorted
    → IsSorted key_cmp sorted → (k : ℕ) → k + 1 < length sorted
    → IsBefore loads (slice_index (map (λ k. k.1) sorted) k) (slice_index (map (λ k. k.1) sorted) (k + 1))
next_greater loads n sorted same rising k within =
    let a = get_or sorted k (0, 0) in
    let b = get_or sorted (k + 1) (0, 0) in
    let a_place : slice_index (map (λ (k : ℕ × ℕ). k.1) sorted) k ≡ a.1 = get_or-map (λ (k : ℕ × ℕ). k.1) sorted k (0, 0) 0 (omega arith) in
    let b_place : slice_index (map (λ (k : ℕ × ℕ). k.1) sorted) (k + 1) ≡ b.1 = get_or-map (λ (k : ℕ × ℕ). k.1) sorted (k + 1) (0, 0) 0 within in
    let loaded : All (λ (k : ℕ × ℕ). k.0 ≡ slice_index loads k.1) sorted = All-permutation (λ (k : ℕ × ℕ). k.0 ≡ slice_index loads k.1) _ _ same (loads_of_keys loads 0 n) in
    let a_load : a.0 ≡ slice_index loads a.1 = loaded k (0, 0) (omega arith) in
    let b_load : b.0 ≡ slice_index loads b.1 = loaded (k + 1) (0, 0) within in
    let most : sum_by (at_place a.1) sorted ≤ 1 = subst (λ m. m ≤ 1) (sym (sum_by-IsPermutation (at_place a.1) _ _ same)) (once loads a.1 0 n) in
    let other : b.1 ≢ a.1 = differ a.1 sorted k (0, 0) most within refl in
    let rise : (a.0 < b.0) ⊎ ((a.0 ≡ b.0) × (a.1 < b.1)) = greater a b (rising k (0, 0) (omega arith) within) other in
    rw (a_place, b_place, ← a_load, ← b_load) rise

-- the places of the sorted keys are the order
pub order_of_sorted : (loads : List ℕ) (n : ℕ) (sorted : List (ℕ × ℕ)) → n ≡ length loads
    → IsPermutation (map (key_at loads) (range_with_len 0 n)) sorted → IsSorted key_cmp sorted
    → IsOrder loads (map (λ k. k.1) sorted)
order_of_sorted loads n sorted count same rising = record {
  places = IsPermutation-sym _ _ (
      subst (λ m. IsPermutation (range_with_len 0 m) (map (λ k. k.1) sorted)) count (
      subst (λ ps. IsPermutation ps (map (λ (k : ℕ × ℕ). k.1) sorted)) (places_of_keys loads 0 n) (
      IsPermutation-map (λ (k : ℕ × ℕ). k.1) _ _ same)));
  rises = λ k within. next_greater loads n sorted same rising k (subst (λ m. k + 1 < m) (length-map sorted (λ (k : ℕ × ℕ). k.1)) within);
}

-- each place in an order is one of the candidates
pub order_within : (loads order : List ℕ) → IsOrder loads order → (k : ℕ) → k < length order → slice_index order k < length loads
order_within loads order is k within =
    All-permutation (λ p. p < length loads) _ _ (IsPermutation-sym _ _ is.places) (λ i d less.
    let short : i < length loads = subst (λ m. i < m) (length-range_with_len 0 (length loads)) less in
    rw (get_or-range_with_len 0 (length loads) i d short) (omega arith)) k 0 within
