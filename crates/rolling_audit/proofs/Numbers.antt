-- The numbers of the clients of each slot.
use Rattle.std.proofs.Common.{ℕ, zero, suc, List, [], ◌∷◌, ◌≡◌, ◌<◌, ◌==◌, Bool, true, false, refl, sym, ◌∙◌, ap, subst, arith, Option, Some, None, eqb-true, true≢false, if◌then◌else◌, length, ◌-◌, nat_le, get_or, slice_get, slice_set}
use Rattle.std.proofs.lemmas.List.{length-set}
use Rattle.std.proofs.lemmas.Option.{slice_get_read, slice_get_within}
use Rattle.mux_history.specs.declared.session.SessionId.TheVariants.{Client}
use Rattle.rolling_audit.specs.Slots.{at_place, at_slot, is_passed, place_of, share_place, share_slot, slot_of, used_in}

pub set_own : {A : Type 0} (xs : List A) (i : ℕ) (x : A) → i < length xs → slice_get (slice_set xs i x) i ≡ Some x
set_own [] i x h = absurd (omega arith)
set_own (y ∷ ys) zero x h = refl
set_own (y ∷ ys) (suc i) x h = set_own ys i x (omega arith)

pub set_other : {A : Type 0} (xs : List A) (i j : ℕ) (x : A) → (i == j) ≡ false → slice_get (slice_set xs i x) j ≡ slice_get xs j
set_other [] i j x off = refl
set_other (y ∷ ys) zero zero x off = absurd (cc off)
set_other (y ∷ ys) zero (suc j) x off = refl
set_other (y ∷ ys) (suc i) zero x off = refl
set_other (y ∷ ys) (suc i) (suc j) x off = set_other ys i j x (grind (arith, off))

pub positive : (n : ℕ) → 0 < n → (n == 0) ≡ false
positive n h = grind (arith, h)

-- what stands at the slot of each server, once this was put at the slot of one
pub put_at_place : {A : Type 0} (xs : List A) (k : ℕ) (x : A) (q : ℕ) → place_of (length xs) k < length xs →
    at_place (slice_set xs (place_of (length xs) k) x) q ≡ (if share_place (length xs) k q then Some x else at_place xs q)
put_at_place {A = A} xs k x q within =
    ap (λ n. slice_get new (place_of n q)) (length-set xs (place_of (length xs) k) x) ∙ by_test (share_place (length xs) k q) refl
  where
    new : List A
    new = slice_set xs (place_of (length xs) k) x

    by_test : (b : Bool) → share_place (length xs) k q ≡ b → slice_get new (place_of (length xs) q) ≡ (if b then Some x else at_place xs q)
    by_test true e = ap (slice_get new) (sym (eqb-true (place_of (length xs) k) (place_of (length xs) q) e)) ∙ set_own xs (place_of (length xs) k) x within
    by_test false e = set_other xs (place_of (length xs) k) (place_of (length xs) q) x e

-- and at that of each client
pub put_at_slot : {A : Type 0} (xs : List A) (k : ℕ) (x : A) (q : ℕ) → slot_of (length xs) k < length xs → (q == 0) ≡ false →
    at_slot (slice_set xs (slot_of (length xs) k) x) q ≡ (if share_slot (length xs) k q then Some x else at_slot xs q)
put_at_slot xs k x q within some =
    ap (λ b. if b then None else at_place (slice_set xs (slot_of (length xs) k) x) (q - 1)) some
    ∙ (put_at_place xs (k - 1) x (q - 1) within
    ∙ ap (λ b. if share_slot (length xs) k q then Some x else (if b then None else at_place xs (q - 1))) (sym some))

-- a number that isn't used has a slot
pub free_slot : (lasts : List ℕ) (k : ℕ) → used_in lasts k ≡ false → ((k == 0) ≡ false) × (slot_of (length lasts) k < length lasts)
free_slot lasts k free = by_zero (k == 0) refl
  where
    by_zero : (b : Bool) → (k == 0) ≡ b → ((k == 0) ≡ false) × (slot_of (length lasts) k < length lasts)
    by_zero true e =
        absurd (true≢false (sym (ap (λ b. is_passed (if b then None else slice_get lasts (slot_of (length lasts) k)) k) e) ∙ free))
    by_zero false e = (e, by_last (slice_get lasts (slot_of (length lasts) k)) refl)
      where
        by_last : (o : Option ℕ) → slice_get lasts (slot_of (length lasts) k) ≡ o → slot_of (length lasts) k < length lasts
        by_last None is =
            absurd (true≢false (sym (ap (λ b. is_passed (if b then None else slice_get lasts (slot_of (length lasts) k)) k) e
            ∙ ap (λ o. is_passed o k) is) ∙ free))
        by_last (Some last) is = slice_get_within lasts (slot_of (length lasts) k) last is

-- which numbers are used, once this one was the last of its slot
pub used_now : (lasts : List ℕ) (k q : ℕ) → slot_of (length lasts) k < length lasts → (q == 0) ≡ false →
    used_in (slice_set lasts (slot_of (length lasts) k) k) q ≡ (if share_slot (length lasts) k q then nat_le q k else used_in lasts q)
used_now lasts k q within some = ap (λ o. is_passed o q) (put_at_slot lasts k k q within some) ∙ by_test (share_slot (length lasts) k q)
  where
    by_test : (b : Bool) → is_passed (if b then Some k else at_slot lasts q) q ≡ (if b then nat_le q k else used_in lasts q)
    by_test true = refl
    by_test false = refl

-- a number that wasn't used and becomes the last of its slot: it is used, and all that were stay so
module _ (lasts : List ℕ) (n k slot : ℕ) (len : n ≡ length lasts) (at : slot ≡ slot_of n k) (fits : slot < n) (some : 0 < k) where
  is : slot ≡ slot_of (length lasts) k
  is = at ∙ ap (λ m. slot_of m k) len

  within : slot < length lasts
  within = subst (λ m. slot < m) len fits

  abbrev now : ℕ → Bool
  now = used_in (slice_set lasts slot k)

  now_is : (q : ℕ) → (q == 0) ≡ false → now q ≡ (if share_slot (length lasts) k q then nat_le q k else used_in lasts q)
  now_is q there =
      ap (λ i. used_in (slice_set lasts i k) q) is ∙ used_now lasts k q (subst (λ i. i < length lasts) is within) there

  becomes_used : now k ≡ true
  becomes_used = now_is k (positive k some) ∙ grind arith

  pub used_still : used_in lasts k ≡ false → (q : ℕ) → used_in lasts q ≡ true → now q ≡ true
  used_still free q was = by_zero (q == 0) refl
    where
      below : share_slot (length lasts) k q ≡ true → (q == 0) ≡ false → nat_le q k ≡ true
      below same there = by_last (slice_get lasts (slot_of (length lasts) k)) refl
        where
          at_k : at_slot lasts k ≡ slice_get lasts (slot_of (length lasts) k)
          at_k = ap (λ b. if b then None else slice_get lasts (slot_of (length lasts) k)) (positive k some)

          at_q : at_slot lasts q ≡ slice_get lasts (slot_of (length lasts) k)
          at_q =
              ap (λ b. if b then None else slice_get lasts (slot_of (length lasts) q)) there
              ∙ ap (slice_get lasts) (sym (eqb-true (slot_of (length lasts) k) (slot_of (length lasts) q) same))

          by_last : (o : Option ℕ) → slice_get lasts (slot_of (length lasts) k) ≡ o → nat_le q k ≡ true
          by_last None e = absurd (true≢false (ap (λ o. is_passed o k) (sym (at_k ∙ e)) ∙ free))
          by_last (Some last) e =
              let low = sym (ap (λ o. is_passed o q) (at_q ∙ e)) ∙ was in
              let high = sym (ap (λ o. is_passed o k) (at_k ∙ e)) ∙ free in
              grind (arith, low, high)

      by_zero : (b : Bool) → (q == 0) ≡ b → now q ≡ true
      by_zero true e = ap (λ b. is_passed (if b then None else slice_get (slice_set lasts slot k) (slot_of (length (slice_set lasts slot k)) q)) q) e
      by_zero false e = now_is q e ∙ by_test (share_slot (length lasts) k q) refl
        where
          by_test : (b : Bool) → share_slot (length lasts) k q ≡ b → (if b then nat_le q k else used_in lasts q) ≡ true
          by_test true same = below same e
          by_test false same = was

  pub was_free : (last : ℕ) → last ≡ get_or lasts slot last → last < k → used_in lasts k ≡ false
  was_free last read low = ap (λ o. is_passed o k) at_k ∙ grind (arith, low)
    where
      at_k : at_slot lasts k ≡ Some last
      at_k =
          ap (λ b. if b then None else slice_get lasts (slot_of (length lasts) k)) (positive k some)
          ∙ (ap (slice_get lasts) (sym is) ∙ slice_get_read lasts (length lasts) slot last refl within read)

  pub numbered : used_in lasts k ≡ false → (j : ℕ) → Client k ≡ Client j → (used_in lasts j ≡ false) × (now j ≡ true)
  numbered free j same = let is : k ≡ j = cc same in subst (λ i. (used_in lasts i ≡ false) × (now i ≡ true)) is (free, becomes_used)
