-- The value of a number, found among numbers that rise.
use Rattle.std.proofs.Common.{◌≡◌, ◌++◌, ◌+◌, ◌<◌, ◌≤◌, ℕ, zero, suc, List, [], ◌∷◌, Bool, true, false, Option, Some, None, Result, Ok, Err, IfOk, IfErr, refl, sym, ◌∙◌, ap, subst, length, set, map, drop, slice_index_or, arith, if◌then◌else◌}
use Rattle.std.specs.Prelude.{◌==◌, is_some, filter}
use Rattle.std.specs.List.{slice_get}
use Rattle.std.specs.Option.{option_map}
use Rattle.std.specs.List.Sorted.{IsSearchInRange, IsBinarySearchResult, IsNonDecreasingBy}
use Rattle.std.specs.Ordering.{nat_cmp, ordering_index}
use Rattle.std.proofs.lemmas.Bool.{eq-eqb, ne_eqb}
use Rattle.std.proofs.lemmas.Bool.Decides.{nat_tests}
use Rattle.std.proofs.lemmas.Cmp.{ranked}
use Rattle.std.proofs.lemmas.List.Sorted.{IsNonDecreasingBy-from_default}
use Rattle.std.proofs.lemmas.Option.{slice_get_within, get_or_from_slice_get}
use Rattle.mux_model.specs.World as world
use Rattle.mux_model.specs.World.{numbered}
use Rattle.mux_model.specs.Events.{hand_at, without_hand}
use Rattle.core_world.specs.declared.hands.Held.{Held}
use Rattle.core_world.specs.declared.hands.Hand.{Hand}
use Rattle.core_world.specs.Hands.{shown}
use Rattle.router_core.specs.declared.bag.Item.{Item}
use Rattle.router_core.specs.Bags.{Rises, IsRising, FoundAt, LeftBy, hand_of, hands_of, in_hand}

abbrev pub no_item : Item
no_item = record { number = 0; held = None }

abbrev pub number_at : List Item → ℕ → ℕ
number_at is k = let i = slice_index_or is k no_item in i.number

-- A VALUE OF ANOTHER NUMBER, and of this one

miss : (n m : ℕ) (o : Option Held) (hs : List world.Hand) → (m == n) ≡ false → hand_at n (in_hand m o hs) ≡ hand_at n hs
miss n m None hs e = refl
miss n m (Some h) hs e = ap (λ b. if b then Some (hand_of m h) else hand_at n hs) e

miss_rest : (n m : ℕ) (o : Option Held) (hs : List world.Hand) → (m == n) ≡ false → without_hand n (in_hand m o hs) ≡ in_hand m o (without_hand n hs)
miss_rest n m None hs e = refl
miss_rest n m (Some h) hs e = ap (λ b. if b then hs else hand_of m h ∷ without_hand n hs) e

meet : (n m : ℕ) (o : Option Held) (hs : List world.Hand) → m ≡ n → hand_at n hs ≡ None → hand_at n (in_hand m o hs) ≡ option_map (λ h. hand_of n h) o
meet n m None hs e none = none
meet n m (Some h) hs e none = ap (λ b. if b then Some (hand_of m h) else hand_at n hs) (eq-eqb m n e) ∙ ap (λ k. Some (hand_of k h)) e

meet_rest : (n m : ℕ) (h : Held) (hs : List world.Hand) → m ≡ n → without_hand n (in_hand m (Some h) hs) ≡ hs
meet_rest n m h hs e = ap (λ b. if b then hs else hand_of m h ∷ without_hand n hs) (eq-eqb m n e)

-- NUMBERS THAT RISE

from_lower : (low high next : ℕ) (is : List Item) → low ≤ high → Rises high is next → Rises low is next
from_lower low high next [] le r = omega (arith, le, r)
from_lower low high next (i ∷ is) le r = (omega (arith, le, r.0), r.1)

at_least : (low next : ℕ) (is : List Item) (k : ℕ) → Rises low is next → k < length is → low ≤ number_at is k
at_least low next [] k r lt = absurd (omega (arith, lt))
at_least low next (i ∷ is) zero r lt = r.0
at_least low next (i ∷ is) (suc k) r lt = (let more : i.number + 1 ≤ number_at is k = at_least (i.number + 1) next is k r.1 (omega (arith, lt)) in omega (arith, more, r.0))

rising : (low next : ℕ) (is : List Item) → Rises low is next → (i j : ℕ) → i < j → j < length is → number_at is i < number_at is j
rising low next [] r i j lt within = absurd (omega (arith, within))
rising low next (x ∷ is) r zero zero lt within = absurd (omega (arith, lt))
rising low next (x ∷ is) r zero (suc j) lt within = (let more : x.number + 1 ≤ number_at is j = at_least (x.number + 1) next is j r.1 (omega (arith, within)) in omega (arith, more))
rising low next (x ∷ is) r (suc i) zero lt within = absurd (omega (arith, lt))
rising low next (x ∷ is) r (suc i) (suc j) lt within = rising (x.number + 1) next is r.1 i j (omega (arith, lt)) (omega (arith, within))

none_below : (n low next : ℕ) (is : List Item) → n < low → Rises low is next → hand_at n (hands_of is) ≡ None
none_below n low next [] less r = refl
none_below n low next (i ∷ is) less r = miss n i.number i.held (hands_of is) (ne_eqb i.number n (λ e. omega (arith, e, less, r.0))) ∙ none_below n (i.number + 1) next is (omega (arith, less, r.0)) r.1

-- no place has the number
none_anywhere : (n : ℕ) (is : List Item) → ((k : ℕ) → k < length is → number_at is k ≡ n → ⊥) → hand_at n (hands_of is) ≡ None
none_anywhere n [] other = refl
none_anywhere n (i ∷ is) other = miss n i.number i.held (hands_of is) (ne_eqb i.number n (other 0 (omega arith))) ∙ none_anywhere n is (λ k lt. other (suc k) (omega (arith, lt)))

later : (low next : ℕ) (x : Item) (is : List Item) (k : ℕ) (i : Item) → Rises low (x ∷ is) next → slice_get is k ≡ Some i → x.number < i.number
later low next x [] k i r at = absurd (cc)
later low next x (y ∷ is) zero i r at = (let same : y ≡ i = cc in subst (λ (z : Item). x.number < z.number) same (omega (arith, r.1.0)))
later low next x (y ∷ is) (suc k) i r at = (let more : y.number < i.number = later (x.number + 1) next y is k i r.1 at in omega (arith, more, r.1.0))

-- A VALUE AT A PLACE

module _ (n next : ℕ) where
  at_place : (low : ℕ) (is : List Item) (k : ℕ) (i : Item) → Rises low is next → slice_get is k ≡ Some i → i.number ≡ n → hand_at n (hands_of is) ≡ option_map (λ h. hand_of n h) i.held
  at_place low [] k i r at e = absurd (cc)
  at_place low (x ∷ is) zero i r at e =
      (let same : x ≡ i = cc in
      let is_n : x.number ≡ n = ap (λ (y : Item). y.number) same ∙ e in
      meet n x.number x.held (hands_of is) is_n (none_below n (x.number + 1) next is (omega (arith, is_n)) r.1) ∙ ap (λ (y : Item). option_map (λ h. hand_of n h) y.held) same)
  at_place low (x ∷ is) (suc k) i r at e =
      (let less : x.number < i.number = later low next x is k i r at in
      miss n x.number x.held (hands_of is) (ne_eqb x.number n (λ f. omega (arith, f, e, less))) ∙ at_place (x.number + 1) is k i r.1 at e)

  rest_at : (low : ℕ) (is : List Item) (k : ℕ) (h : Held) → Rises low is next → slice_get is k ≡ Some (record { number = n; held = Some h })
      → without_hand n (hands_of is) ≡ hands_of (set is k (record { number = n; held = None }))
  rest_at low [] k h r at = absurd (cc)
  rest_at low (x ∷ is) zero h r at =
      (let same : x ≡ record { number = n; held = Some h } = cc in
      ap (λ (y : Item). without_hand n (in_hand y.number y.held (hands_of is))) same ∙ meet_rest n n h (hands_of is) refl)
  rest_at low (x ∷ is) (suc k) h r at =
      (let less : x.number < n = later low next x is k (record { number = n; held = Some h }) r at in
      miss_rest n x.number x.held (hands_of is) (ne_eqb x.number n (λ f. omega (arith, f, less))) ∙ ap (λ l. in_hand x.number x.held l) (rest_at (x.number + 1) is k h r.1 at))

-- a place may be given another value
pub rises_set : (low next : ℕ) (is : List Item) (k : ℕ) (i j : Item) → slice_get is k ≡ Some i → j.number ≡ i.number → Rises low is next → Rises low (set is k j) next
rises_set low next [] k i j at e r = absurd (cc)
rises_set low next (x ∷ is) zero i j at e r =
    (let same : x ≡ i = cc in
    let is_x : j.number ≡ x.number = e ∙ ap (λ (y : Item). y.number) (sym same) in
    (omega (arith, r.0, is_x), subst (λ m. Rises (m + 1) is next) (sym is_x) r.1))
rises_set low next (x ∷ is) (suc k) i j at e r = (r.0, rises_set (x.number + 1) next is k i j at e r.1)

set_back : (is : List Item) (k : ℕ) (i j : Item) → slice_get is k ≡ Some i → set (set is k j) k i ≡ is
set_back [] k i j at = absurd (cc)
set_back (x ∷ is) zero i j at = (let same : x ≡ i = cc in ap (λ y. y ∷ is) (sym same))
set_back (x ∷ is) (suc k) i j at = ap (λ l. x ∷ l) (set_back is k i j at)

length_set : (is : List Item) (k : ℕ) (j : Item) → length (set is k j) ≡ length is
length_set [] k j = refl
length_set (x ∷ is) zero j = refl
length_set (x ∷ is) (suc k) j = ap (λ m. suc m) (length_set is k j)

pub left_by : (n k : ℕ) (is : List Item) (h : Held) → IsRising is → slice_get is k ≡ Some (record { number = n; held = Some h }) → LeftBy n is (set is k (record { number = n; held = None })) k h
left_by n k is h r at = record {
  within = subst (λ m. k < m) (sym (length_set is k (record { number = n; held = None }))) (slice_get_within is k (record { number = n; held = Some h }) at);
  hand = at_place n r.0 0 is k (record { number = n; held = Some h }) r.1 at refl;
  rest = sym (rest_at n r.0 0 is k h r.1 at);
  back = set_back is k (record { number = n; held = Some h }) (record { number = n; held = None }) at;
  rises = λ next. rises_set 0 next is k (record { number = n; held = Some h }) (record { number = n; held = None }) at refl;
}

-- what is read at a place
pub there : (n k : ℕ) (is : List Item) (i : Item) (h : Held) → IsRising is → slice_get is k ≡ Some i → i.number ≡ n → i.held ≡ Some h → FoundAt n is (Some k)
there n k is i h r at e held =
    (let same : ◌≡◌ {A = Item} i (record { number = n; held = Some h }) = λ j. record { number = e j; held = held j } in
    (h, at ∙ ap (λ x. Some x) same, at_place n r.0 0 is k i r.1 at e ∙ ap (λ o. option_map (λ x. hand_of n x) o) held))

pub gone : (n k : ℕ) (is : List Item) (i : Item) → IsRising is → slice_get is k ≡ Some i → i.number ≡ n → i.held ≡ None → hand_at n (hands_of is) ≡ None
gone n k is i r at e held = at_place n r.0 0 is k i r.1 at e ∙ ap (λ o. option_map (λ x. hand_of n x) o) held

pub same_place : (is : List Item) (k : ℕ) (i j : Item) → slice_get is k ≡ Some i → j ≡ slice_index_or is k j → j ≡ i
same_place is k i j at e = e ∙ get_or_from_slice_get is k i j at

-- THE SEARCH

module _ (is : List Item) (sorted : IsRising is) (n : ℕ) where
  tests_rise : IsNonDecreasingBy (λ (i : Item). ordering_index (nat_cmp i.number n)) is
  tests_rise = IsNonDecreasingBy-from_default (λ (i : Item). ordering_index (nat_cmp i.number n)) is no_item (λ i j le within.
      let rise : number_at is i ≤ number_at is j = grind (arith, rising 0 sorted.0 is sorted.1 i j, λ (same : i ≡ j). ap (number_at is) same) in
      grind (arith, nat_tests))

  pub searched : (r : Result ℕ ℕ) → IsSearchInRange r (length is) → IsBinarySearchResult (λ (i : Item). nat_cmp i.number n) is r
      → record { found : IfOk r (λ k. (k < length is) × ((d : Item) → (slice_index_or is k d).number ≡ n)); absent : IfErr r (λ k. hand_at n (hands_of is) ≡ None) }
  searched (Ok k) within equal = record { found = (within, λ d. ranked _ n _ (sym (equal d))); absent = tt }
  searched (Err k) within parted = record {
    found = tt;
    absent = none_anywhere n is (λ j lt e. grind (arith, before j, after j, lt, e));
  }
    where
      before : (j : ℕ) → j < k → number_at is j < n
      before j lt = ranked _ n _ (sym ((parted tests_rise).0 j no_item (omega (arith, within, lt)) lt))

      after : (j : ℕ) → k ≤ j → j < length is → n < number_at is j
      after j le lt = ranked _ n _ (sym ((parted tests_rise).1 j no_item le lt))

-- ROOM

abbrev pub is_kept : Item → Bool
is_kept i = is_some i.held

kept_hands : (i : Item) (is : List Item) → in_hand i.number i.held (hands_of (filter is_kept is)) ≡ hands_of (filter is_kept (i ∷ is))
kept_hands i is = by_value i.held refl
  where
    by_value : (o : Option Held) → i.held ≡ o → in_hand i.number i.held (hands_of (filter is_kept is)) ≡ hands_of (filter is_kept (i ∷ is))
    by_value None e = ap (λ o. in_hand i.number o (hands_of (filter is_kept is))) e ∙ sym (ap (λ (o : Option Held). hands_of (if is_some o then i ∷ filter is_kept is else filter is_kept is)) e)
    by_value (Some h) e = sym (ap (λ (o : Option Held). hands_of (if is_some o then i ∷ filter is_kept is else filter is_kept is)) e)

pub filter_hands : (is : List Item) → hands_of (filter is_kept is) ≡ hands_of is
filter_hands [] = refl
filter_hands (i ∷ is) = sym (kept_hands i is) ∙ ap (λ l. in_hand i.number i.held l) (filter_hands is)

rises_on : (low next : ℕ) (i : Item) (is : List Item) (b : Bool) → low ≤ i.number → Rises (i.number + 1) is next → Rises low (if b then i ∷ is else is) next
rises_on low next i is true le r = (le, r)
rises_on low next i is false le r = from_lower low (i.number + 1) next is (omega (arith, le)) r

pub filter_rises : (low next : ℕ) (is : List Item) → Rises low is next → Rises low (filter is_kept is) next
filter_rises low next [] r = r
filter_rises low next (i ∷ is) r = rises_on low next i (filter is_kept is) (is_kept i) r.0 (filter_rises (i.number + 1) next is r.1)

-- ONE MORE

pub push_hands : (is : List Item) (n : ℕ) (h : Held) → hands_of (is ++ record { number = n; held = Some h } ∷ []) ≡ hands_of is ++ hand_of n h ∷ []
push_hands [] n h = refl
push_hands (i ∷ is) n h = ap (λ l. in_hand i.number i.held l) (push_hands is n h) ∙ before i.held
  where
    before : (o : Option Held) → in_hand i.number o (hands_of is ++ hand_of n h ∷ []) ≡ in_hand i.number o (hands_of is) ++ hand_of n h ∷ []
    before None = refl
    before (Some g) = refl

pub push_rises : (low : ℕ) (is : List Item) (n : ℕ) (o : Option Held) → Rises low is n → Rises low (is ++ record { number = n; held = o } ∷ []) (n + 1)
push_rises low [] n o r = (r, omega arith)
push_rises low (i ∷ is) n o r = (r.0, push_rises (i.number + 1) is n o r.1)

-- ALL VALUES, as they are shown

-- those before this place are in the list
abbrev pub ShownUpTo : List Item → ℕ → List Hand → Type 0
ShownUpTo is k all = all ++ map shown (hands_of (drop k is)) ≡ map shown (hands_of is)
