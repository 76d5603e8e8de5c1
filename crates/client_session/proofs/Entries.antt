-- Counts over the entries of a map.
use Rattle.std.proofs.Common.{◌≡◌, ◌≢◌, ◌⊎◌, inl, inr, ℕ, suc, zero, ◌+◌, ◌≤◌, true, false, cond, List, [], ◌∷◌, Option, None, Some, refl, sym, ◌∙◌, ap, arith}
use Rattle.std.specs.Prelude.{is_some, sum_by, not}
use Rattle.std.specs.Ordering.{nat_cmp, is_eq, eq_by_cmp}
use Rattle.std.proofs.Common.{Ordering, Less, Equal, Greater}
use Rattle.std.specs.Cmp.{nat_cmp_total}
use Rattle.std.specs.FinMap.{FinMap, find, put, get, insert, remove, len, entries, get-entries, get-insert, get-remove, same_map, nat_cmp-IsAntisymmetric, entries-insert, len-insert, len-entries}
use Rattle.std.specs.FinMap.Entries.{by_order}
use Rattle.std.proofs.lemmas.List.Sums.{sum_by-cons, count_by-le-length}
use Rattle.std.proofs.lemmas.Bool.Decides.{nat_tests}
use Rattle.client_session.specs.Past.{Dispatch}
use Rattle.client_session.specs.State.{fresh_in, is_fresh}

pub ties : (q x : ℕ) → q ≡ x → eq_by_cmp nat_cmp q x ≡ true
ties q x e = grind (arith, nat_tests)

pub no_tie : (q x : ℕ) → q ≢ x → eq_by_cmp nat_cmp q x ≡ false
no_tie q x e = grind (arith, nat_tests)

pub same_or : (a b : ℕ) → (a ≡ b) ⊎ (a ≢ b)
same_or zero zero = inl refl
same_or zero (suc b) = inr (λ e. omega (arith, e))
same_or (suc a) zero = inr (λ e. omega (arith, e))
same_or (suc a) (suc b) = elim (same_or a b) [ inl e ↦ inl (ap suc e) | inr n ↦ inr (λ e. n (omega (arith, e))) ]

module _ {X : Type 0} where
  put_sum : (f : ℕ × X → ℕ) (k : ℕ) (v : X) (es : List (ℕ × X)) → find nat_cmp k es ≡ None → sum_by f (put nat_cmp k v es) ≡ f (k, v) + sum_by f es
  put_sum f k v [] h = sum_by-cons f (k, v) []
  put_sum f k v (e ∷ es) h = by (nat_cmp k e.0) (put_sum f k v es) h
    where
      by : (o : Ordering) → (find nat_cmp k es ≡ None → sum_by f (put nat_cmp k v es) ≡ f (k, v) + sum_by f es) → cond (is_eq o) (Some e.1) (find nat_cmp k es) ≡ None
          → sum_by f (by_order o ((k, v) ∷ e ∷ es) ((e.0, v) ∷ es) (e ∷ put nat_cmp k v es)) ≡ f (k, v) + sum_by f (e ∷ es)
      by Less later h = sum_by-cons f (k, v) (e ∷ es)
      by Equal later h = cc
      by Greater later h =
          let rec = later h in
          let one = sum_by-cons f e (put nat_cmp k v es) in
          let two = sum_by-cons f e es in
          omega arith

  pub sum-insert : (f : ℕ × X → ℕ) (m : FinMap nat_cmp X) (k : ℕ) (v : X) → get m k ≡ None → sum_by f (entries (insert m k v)) ≡ f (k, v) + sum_by f (entries m)
  sum-insert f m k v none =
      ap (sum_by f) (entries-insert nat_cmp_total m k v) ∙ put_sum f k v (entries m) (sym (get-entries m k) ∙ none)

  pub get-remove_same : (m : FinMap nat_cmp X) (k : ℕ) → get (remove m k) k ≡ None
  get-remove_same m k = get-remove nat_cmp_total m k k ∙ ap (λ b. cond b None (get m k)) (ties k k refl)

  pub put_back : (m : FinMap nat_cmp X) (k : ℕ) (v : X) → get m k ≡ Some v → m ≡ insert (remove m k) k v
  put_back m k v held =
      same_map nat_cmp_total nat_cmp-IsAntisymmetric _ _
      (λ q. elim (same_or q k) [
        | inl is ↦ ap (get m) is ∙ held ∙ sym (get-insert nat_cmp_total (remove m k) k v q ∙ ap (λ b. cond b (Some v) (get (remove m k) q)) (ties q k is))
        | inr not ↦ sym (get-insert nat_cmp_total (remove m k) k v q ∙ ap (λ b. cond b (Some v) (get (remove m k) q)) (no_tie q k not)
            ∙ get-remove nat_cmp_total m k q ∙ ap (λ b. cond b None (get m q)) (no_tie q k not))
      ])

  pub sum-remove : (f : ℕ × X → ℕ) (m : FinMap nat_cmp X) (k : ℕ) (v : X) → get m k ≡ Some v → sum_by f (entries m) ≡ f (k, v) + sum_by f (entries (remove m k))
  sum-remove f m k v held =
      ap (λ n. sum_by f (entries n)) (put_back m k v held) ∙ sum-insert f (remove m k) k v (get-remove_same m k)

  pub len-insert_new : (m : FinMap nat_cmp X) (k : ℕ) (v : X) → get m k ≡ None → len (insert m k v) ≡ len m + 1
  len-insert_new m k v none = len-insert nat_cmp_total m k v ∙ ap (λ (o : Option X). cond (is_some o) (len m) (len m + 1)) none

  pub len-remove_held : (m : FinMap nat_cmp X) (k : ℕ) (v : X) → get m k ≡ Some v → len m ≡ len (remove m k) + 1
  len-remove_held m k v held = ap len (put_back m k v held) ∙ len-insert_new (remove m k) k v (get-remove_same m k)

-- a new dispatch is one more that was not recalled
pub fresh_in-insert : (m : FinMap nat_cmp Dispatch) (k : ℕ) (h : Dispatch) → get m k ≡ None → fresh_in (insert m k h) ≡ cond (not h.recalled) 1 0 + fresh_in m
fresh_in-insert m k h none = sum-insert (λ (e : ℕ × Dispatch). cond (is_fresh e) 1 0) m k h none

pub fresh_in-remove : (m : FinMap nat_cmp Dispatch) (k : ℕ) (h : Dispatch) → get m k ≡ Some h → fresh_in m ≡ cond (not h.recalled) 1 0 + fresh_in (remove m k)
fresh_in-remove m k h held = sum-remove (λ (e : ℕ × Dispatch). cond (is_fresh e) 1 0) m k h held

-- a dispatch that is recalled stays, and counts no more
pub insert-remove : (m : FinMap nat_cmp Dispatch) (k : ℕ) (h : Dispatch) → insert m k h ≡ insert (remove m k) k h
insert-remove m k h =
    same_map nat_cmp_total nat_cmp-IsAntisymmetric _ _
    (λ q. elim (same_or q k) [
      | inl is ↦ get-insert nat_cmp_total m k h q ∙ ap (λ b. cond b (Some h) (get m q)) (ties q k is)
          ∙ sym (get-insert nat_cmp_total (remove m k) k h q ∙ ap (λ b. cond b (Some h) (get (remove m k) q)) (ties q k is))
      | inr not ↦ get-insert nat_cmp_total m k h q ∙ ap (λ b. cond b (Some h) (get m q)) (no_tie q k not)
          ∙ sym (get-insert nat_cmp_total (remove m k) k h q ∙ ap (λ b. cond b (Some h) (get (remove m k) q)) (no_tie q k not)
          ∙ get-remove nat_cmp_total m k q ∙ ap (λ b. cond b None (get m q)) (no_tie q k not))
    ])

pub fresh_in-replace : (m : FinMap nat_cmp Dispatch) (k : ℕ) (h : Dispatch) → fresh_in (insert m k h) ≡ cond (not h.recalled) 1 0 + fresh_in (remove m k)
fresh_in-replace m k h = ap (λ (n : FinMap nat_cmp Dispatch). fresh_in n) (insert-remove m k h) ∙ fresh_in-insert (remove m k) k h (get-remove_same m k)

pub len-replace : (m : FinMap nat_cmp Dispatch) (k : ℕ) (h : Dispatch) → len (insert m k h) ≡ len (remove m k) + 1
len-replace m k h = ap (λ (n : FinMap nat_cmp Dispatch). len n) (insert-remove m k h) ∙ len-insert_new (remove m k) k h (get-remove_same m k)

-- at most all entries were not recalled
pub fresh_within : (m : FinMap nat_cmp Dispatch) → fresh_in m ≤ len m
fresh_within m = rw (len-entries m) (count_by-le-length is_fresh (entries m))
