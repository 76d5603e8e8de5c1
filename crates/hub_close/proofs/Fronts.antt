-- Receipts at the front of others.
use Rattle.std.proofs.Common.{ℕ, zero, suc, List, [], ◌∷◌, ◌≡◌, ◌<◌, ◌≤◌, ◌+◌, ◌∙◌, Some, add-one, ap, arith, drop, false, length, refl, subst, sym, take}
use Rattle.std.specs.Prelude.{◌⊎◌, Option, nat_lt, slice_get, unwrap_or}
use Rattle.std.proofs.lemmas.List.{append-nil, take-append-drop}
use Rattle.std.proofs.lemmas.Option.{slice_get_within}
use Rattle.std.proofs.Math.Nat.{eq-or-lt_of_le}
use mathlib.Core.Logic.{⊎_elim}
use Rattle.mux_history.specs.Log.{Log}
use Rattle.hub_close.specs.declared.receipt.Stub.{Stub}
use Rattle.hub_close.specs.Packing.{before}
use Rattle.hub_close.specs.Receipts.{AreRightFrom, IsFirstWrongFrom, IsAbove, IsBelow, Rise, Settles, StandAllFrom, StandsFrom, is_behind}

at_front : (n : ℕ) (xs : List Stub) (k : ℕ) → k < n → slice_get (take n xs) k ≡ slice_get xs k
at_front zero xs k lt = absurd (omega (arith, lt))
at_front (suc n) [] k lt = refl
at_front (suc n) (x ∷ xs) zero lt = refl
at_front (suc n) (x ∷ xs) (suc k) lt = at_front n xs k (omega (arith, lt))

in_front : (n : ℕ) (xs : List Stub) (k : ℕ) (r : Stub) → slice_get (take n xs) k ≡ Some r → k < n
in_front zero xs k r found = absurd (cc)
in_front (suc n) [] k r found = absurd (cc)
in_front (suc n) (x ∷ xs) zero r found = omega arith
in_front (suc n) (x ∷ xs) (suc k) r found = omega (arith, in_front n xs k r found)

-- those before a place are right, and the one there is of a later epoch: it is the first that stays
pub front_settled : (first : ℕ) (epochs : List Log) (n : ℕ) (xs : List Stub) → AreRightFrom first epochs xs n
    → is_behind (first + length epochs) (drop n xs) ≡ false → Settles first epochs xs (drop n xs)
front_settled first epochs n xs (stand, above) rest = (
  take n xs,
  sym (take-append-drop n xs),
  λ k r found. let lt = in_front n xs k r found in stand k r lt (sym (at_front n xs k lt) ∙ found),
  λ k a b x y. let lt = in_front n xs (k + 1) b y in
      above (k + 1) lt k a b refl (sym (at_front n xs k (omega (arith, lt))) ∙ x) (sym (at_front n xs (k + 1) lt) ∙ y),
  rest,
)

-- all are right
pub all_settled : (first : ℕ) (epochs : List Log) (xs new : List Stub) → new ≡ [] → StandAllFrom first epochs xs → Rise xs
    → Settles first epochs xs new
all_settled first epochs xs new none stand rise =
    subst (λ ys. Settles first epochs xs ys) (sym none) (xs, sym (append-nil xs), stand, rise, refl)

pub all_stand : (first : ℕ) (epochs : List Log) (xs : List Stub) (at : ℕ) → length xs ≤ at → AreRightFrom first epochs xs at
    → StandAllFrom first epochs xs
all_stand first epochs xs at le (stand, above) k r found = stand k r (omega (arith, le, slice_get_within xs k r found)) found

pub all_rise : (first : ℕ) (epochs : List Log) (xs : List Stub) (at : ℕ) → length xs ≤ at → AreRightFrom first epochs xs at → Rise xs
all_rise first epochs xs at le (stand, above) k a b x y =
    above (k + 1) (omega (arith, le, slice_get_within xs (k + 1) b y)) k a b refl x y

pub first_wrong_is : (first : ℕ) (epochs : List Log) (xs : List Stub) (at : ℕ) (r : Stub) → AreRightFrom first epochs xs at
    → slice_get xs at ≡ Some r → (¬ StandsFrom first epochs r) ⊎ (¬ IsAbove xs at) → IsFirstWrongFrom first epochs xs at
first_wrong_is first epochs xs at r right found wrong = (right, (r, found, wrong))

-- those before a place are right, and the one there is of a later epoch
pub settled_by : (first : ℕ) (epochs : List Log) (at : ℕ) (xs old new : List Stub) → xs ≡ old → new ≡ drop at old
    → IsFirstWrongFrom first epochs xs at → is_behind (first + length epochs) (drop at xs) ≡ false → Settles first epochs old new
settled_by first epochs at xs old new same is (right, wrong) later =
    subst (λ ys. Settles first epochs old ys) (sym is)
    (subst (λ ys. Settles first epochs ys (drop at ys)) same (front_settled first epochs at xs right later))

pub behind_at : (m : ℕ) (xs : List Stub) (k : ℕ) (r : Stub) → slice_get xs k ≡ Some r
    → is_behind m (drop k xs) ≡ nat_lt r.epoch m
behind_at m [] zero r found = absurd (cc)
behind_at m (x ∷ xs) zero r found = ap (λ (o : Option Stub). nat_lt (unwrap_or o r).epoch m) found
behind_at m [] (suc k) r found = absurd (cc)
behind_at m (x ∷ xs) (suc k) r found = behind_at m xs k r found

same_found : (o : Option Stub) (a b : Stub) → o ≡ Some a → o ≡ Some b → a ≡ b
same_found o a b x y = ap (λ (p : Option Stub). unwrap_or p a) (sym x ∙ y)

-- the receipt at this place is above the one before it, by that one
pub next_before : (xs : List Stub) (k : ℕ) → before xs (k + 1) ≡ slice_get xs k
next_before xs k = ap (before xs) (add-one k)

pub above_by : (xs : List Stub) (at : ℕ) (last : Option Stub) (r : Stub) → last ≡ before xs at → slice_get xs at ≡ Some r
    → ((a : Stub) → last ≡ Some a → IsBelow a r) → IsAbove xs at
above_by xs at last r is found below k a b up x y =
    subst (IsBelow a) (same_found _ r b found y) (below a (is ∙ ap (before xs) up ∙ next_before xs k ∙ x))

pub not_above : (xs : List Stub) (at : ℕ) (last : Option Stub) (r : Stub) → last ≡ before xs at → slice_get xs at ≡ Some r
    → ((a : Stub) × (last ≡ Some a) × (¬ IsBelow a r)) → ¬ IsAbove xs at
not_above xs zero last r is found (a, one, below) above = absurd (cc)
not_above xs (suc k) last r is found (a, one, below) above = below (above k a r (sym (add-one k)) (sym is ∙ one) found)

pub right_next : (first : ℕ) (epochs : List Log) (xs : List Stub) (at : ℕ) (r : Stub) → slice_get xs at ≡ Some r
    → StandsFrom first epochs r → IsAbove xs at → AreRightFrom first epochs xs at → AreRightFrom first epochs xs (at + 1)
right_next first epochs xs at r found stands above (all, each) = (
  λ k s lt x. ⊎_elim
      (λ e. subst (StandsFrom first epochs) (same_found _ r s found (sym (ap (λ j. slice_get xs j) e) ∙ x)) stands)
      (λ less. all k s less x)
      (eq-or-lt_of_le (within k lt)),
  λ k lt. ⊎_elim (λ e. subst (IsAbove xs) (sym e) above) (λ less. each k less) (eq-or-lt_of_le (within k lt)),
)
  where
    within : (k : ℕ) → k < at + 1 → k ≤ at
    within k lt = omega (arith, lt)
