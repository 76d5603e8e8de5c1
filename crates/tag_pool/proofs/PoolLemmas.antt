-- The map of the entries, read from the slots.
use Rattle.std.proofs.Common.{◌≡◌, ◌≢◌, ◌⊎◌, inl, inr, ℕ, suc, zero, ◌+◌, ◌-◌, ◌<◌, ◌≤◌, Bool, true, false, ◌&&◌, cond, List, [], ◌∷◌, length, Option, None, Some, refl, sym, ◌∙◌, ap, subst, arith, T, slice_index_or}
use Rattle.std.specs.Prelude.{is_some, count_by}
use Rattle.std.specs.Ordering.{nat_cmp, is_lt, eq_by_cmp}
use Rattle.std.specs.Cmp.{nat_cmp_total}
use Rattle.std.specs.FinMap.{FinMap, find, is_sorted, get, insert, remove, len, get-from_sorted, get-insert, get-remove, same_map, nat_cmp-IsAntisymmetric, entries-from_sorted, len-entries, empty, empty_of_len}
use Rattle.std.specs.FinMap.Entries.{below_all}
use Rattle.std.proofs.lemmas.Bool.{cases_lt}
use Rattle.std.proofs.lemmas.Bool.Decides.{nat_tests}
use Rattle.std.proofs.lemmas.List.Sums.{sum_by-cons}
use Rattle.slab.specs.Slab as slab
use Rattle.slab.proofs.SlabLemmas.{Updates-with_value}
use Rattle.tag_pool.specs.Pool.{Pool, held_from, held_in, VacantBelow}

pub ties : (q x : ℕ) → q ≡ x → eq_by_cmp nat_cmp q x ≡ true
ties q x e = grind (arith, nat_tests)

pub no_tie : (q x : ℕ) → q ≢ x → eq_by_cmp nat_cmp q x ≡ false
no_tie q x e = grind (arith, nat_tests)

pub less : (q x : ℕ) → q < x → is_lt (nat_cmp q x) ≡ true
less q x e = grind (arith, nat_tests)

both : (a b : Bool) → T a → T b → T (a && b)
both true true x y = tt
both true false x y = y
both false b x y = x

-- a tag is below 2, or that of a place
pub place_of : (q : ℕ) → (q < 2) ⊎ ((i : ℕ) × (q ≡ 2 + i))
place_of zero = inl (omega arith)
place_of (suc zero) = inl (omega arith)
place_of (suc (suc i)) = inr (i, omega arith)

pub same_or : (a b : ℕ) → (a ≡ b) ⊎ (a ≢ b)
same_or zero zero = inl refl
same_or zero (suc b) = inr (λ e. omega (arith, e))
same_or (suc a) zero = inr (λ e. omega (arith, e))
same_or (suc a) (suc b) = elim (same_or a b) [ inl e ↦ inl (ap suc e) | inr n ↦ inr (λ e. n (omega (arith, e))) ]

module _ {E : Type 0} where
  held_above : (x b : ℕ) (slots : List (Option E)) → x < b → T (below_all nat_cmp x (held_from b slots))
  held_above x b [] h = tt
  held_above x b (None ∷ rest) h = held_above x (suc b) rest (omega arith)
  held_above x b (Some e ∷ rest) h = both _ _ (subst T (sym (less x b h)) tt) (held_above x (suc b) rest (omega arith))

  pub held_sorted : (b : ℕ) (slots : List (Option E)) → T (is_sorted nat_cmp (held_from b slots))
  held_sorted b [] = tt
  held_sorted b (None ∷ rest) = held_sorted (suc b) rest
  held_sorted b (Some e ∷ rest) = both _ _ (held_above b (suc b) rest (omega arith)) (held_sorted (suc b) rest)

  find_below : (q b : ℕ) (slots : List (Option E)) → q < b → find nat_cmp q (held_from b slots) ≡ None
  find_below q b [] h = refl
  find_below q b (None ∷ rest) h = find_below q (suc b) rest (omega arith)
  find_below q b (Some e ∷ rest) h =
      let apart : q ≢ b = λ e. omega (arith, e) in
      rw (no_tie q b apart) (find_below q (suc b) rest (omega arith))

  find_at : (q b : ℕ) (i : ℕ) (slots : List (Option E)) → q ≡ b + i → find nat_cmp q (held_from b slots) ≡ slice_index_or slots i None
  find_at q b i [] h = refl
  find_at q b zero (None ∷ rest) h = find_below q (suc b) rest (omega arith)
  find_at q b (suc i) (None ∷ rest) h = find_at q (suc b) i rest (omega arith)
  find_at q b zero (Some e ∷ rest) h = rw (ties q b (omega arith)) refl
  find_at q b (suc i) (Some e ∷ rest) h =
      let apart : q ≢ b = λ e. omega (arith, e) in
      rw (no_tie q b apart) (find_at q (suc b) i rest (omega arith))

  length-held_from : (b : ℕ) (slots : List (Option E)) → length (held_from b slots) ≡ count_by is_some slots
  length-held_from b [] = refl
  length-held_from b (None ∷ rest) =
      let rec = length-held_from (suc b) rest in
      let here = sum_by-cons (λ (o : Option E). cond (is_some o) 1 0) None rest in
      omega arith
  length-held_from b (Some e ∷ rest) =
      let rec = length-held_from (suc b) rest in
      let here = sum_by-cons (λ (o : Option E). cond (is_some o) 1 0) (Some e) rest in
      omega arith

  pub get-held_in : (slots : List (Option E)) (q i : ℕ) → q ≡ 2 + i → get (held_in slots) q ≡ slice_index_or slots i None
  get-held_in slots q i h = get-from_sorted nat_cmp _ q (held_sorted 2 slots) ∙ find_at q 2 i slots h

  pub get-held_in_low : (slots : List (Option E)) (q : ℕ) → q < 2 → get (held_in slots) q ≡ None
  get-held_in_low slots q h = get-from_sorted nat_cmp _ q (held_sorted 2 slots) ∙ find_below q 2 slots h

  pub len-held_in : (slots : List (Option E)) → len (held_in slots) ≡ count_by is_some slots
  len-held_in slots = len-entries _ ∙ ap length (entries-from_sorted nat_cmp _ (held_sorted 2 slots)) ∙ length-held_from 2 slots

  -- a change of one slot is a change at one tag
  pub held_in-filled : (old new : slab.Slab E) (key : ℕ) (entry : E) → slab.Updates old new key (Some entry)
      → held_in new.slots ≡ insert (held_in old.slots) (2 + key) entry
  held_in-filled old new key entry u =
      same_map nat_cmp_total nat_cmp-IsAntisymmetric _ _
      (λ q. elim (place_of q) [
        | inl low ↦ low_is q low
        | inr (i, e) ↦ elim (same_or i key) [
          | inl is ↦
              get-held_in new.slots q i e ∙ ap (λ k. slice_index_or new.slots k None) is ∙ u.changed
              ∙ sym (get-insert nat_cmp_total (held_in old.slots) (2 + key) entry q ∙ ap (λ b. cond b (Some entry) (get (held_in old.slots) q)) (ties q (2 + key) (omega (arith, e, is))))
          | inr not ↦
              get-held_in new.slots q i e ∙ u.others i not ∙ sym (get-held_in old.slots q i e)
              ∙ sym (get-insert nat_cmp_total (held_in old.slots) (2 + key) entry q ∙ ap (λ b. cond b (Some entry) (get (held_in old.slots) q)) (no_tie q (2 + key) (λ f. not (omega (arith, e, f)))))
        ]
      ])
    where
      low_is : (q : ℕ) → q < 2 → get (held_in new.slots) q ≡ get (insert (held_in old.slots) (2 + key) entry) q
      low_is q low =
          get-held_in_low new.slots q low ∙ sym (get-held_in_low old.slots q low)
          ∙ sym (get-insert nat_cmp_total (held_in old.slots) (2 + key) entry q ∙ ap (λ b. cond b (Some entry) (get (held_in old.slots) q)) (no_tie q (2 + key) (λ f. omega (arith, f))))

  pub held_in-emptied : (old new : slab.Slab E) (key : ℕ) → slab.Updates old new key None
      → held_in new.slots ≡ remove (held_in old.slots) (2 + key)
  held_in-emptied old new key u =
      same_map nat_cmp_total nat_cmp-IsAntisymmetric _ _
      (λ q. elim (place_of q) [
        | inl low ↦ low_is q low
        | inr (i, e) ↦ elim (same_or i key) [
          | inl is ↦
              get-held_in new.slots q i e ∙ ap (λ k. slice_index_or new.slots k None) is ∙ u.changed
              ∙ sym (get-remove nat_cmp_total (held_in old.slots) (2 + key) q ∙ ap (λ b. cond b None (get (held_in old.slots) q)) (ties q (2 + key) (omega (arith, e, is))))
          | inr not ↦
              get-held_in new.slots q i e ∙ u.others i not ∙ sym (get-held_in old.slots q i e)
              ∙ sym (get-remove nat_cmp_total (held_in old.slots) (2 + key) q ∙ ap (λ b. cond b None (get (held_in old.slots) q)) (no_tie q (2 + key) (λ f. not (omega (arith, e, f)))))
        ]
      ])
    where
      low_is : (q : ℕ) → q < 2 → get (held_in new.slots) q ≡ get (remove (held_in old.slots) (2 + key)) q
      low_is q low =
          get-held_in_low new.slots q low ∙ sym (get-held_in_low old.slots q low)
          ∙ sym (get-remove nat_cmp_total (held_in old.slots) (2 + key) q ∙ ap (λ b. cond b None (get (held_in old.slots) q)) (no_tie q (2 + key) (λ f. omega (arith, f))))

  -- pools of one room are the same where their entries are
  pub same_entries : (room : ℕ) (m n : FinMap nat_cmp E) → m ≡ n → ◌≡◌ {A = Pool E} (record { entries = m; room = room }) (record { entries = n; room = room })
  same_entries room m n e = ap (λ (l : FinMap nat_cmp E). let p : Pool E = record { entries = l; room = room } in p) e

  -- to remove what is not there changes nothing
  pub remove-absent : (m : FinMap nat_cmp E) (tag : ℕ) → get m tag ≡ None → remove m tag ≡ m
  remove-absent m tag none =
      same_map nat_cmp_total nat_cmp-IsAntisymmetric _ _
      (λ q. elim (same_or q tag) [
        | inl is ↦ get-remove nat_cmp_total m tag q ∙ ap (λ b. cond b None (get m q)) (ties q tag is) ∙ sym none ∙ ap (get m) (sym is)
        | inr not ↦ get-remove nat_cmp_total m tag q ∙ ap (λ b. cond b None (get m q)) (no_tie q tag not)
      ])

  no_none : (o : Option E) → o ≡ None → is_some o ≡ true → ⊥
  no_none None e h = cc
  no_none (Some x) e h = cc

  -- a low mark goes up over keys that aren't held
  pub vacant_up_to : (s : slab.Slab E) (low high : ℕ) → VacantBelow s low → ((key : ℕ) → low ≤ key → key < high → slab.get s key ≡ None) → VacantBelow s high
  vacant_up_to s low high below between key within =
      elim (cases_lt key low) [
        | inl under ↦ below key under
        | inr over ↦ between key over within
      ]

  count_none : (slots : List (Option E)) → ((i : ℕ) → i < length slots → slice_index_or slots i None ≡ None) → count_by is_some slots ≡ 0
  count_none [] none = refl
  count_none (None ∷ rest) none =
      let rec = count_none rest (λ i within. none (suc i) (omega arith)) in
      let here = sum_by-cons (λ (o : Option E). cond (is_some o) 1 0) None rest in
      omega arith
  count_none (Some e ∷ rest) none = absurd (no_none (Some e) (none 0 (omega arith)) refl)

  pub len-none_held : (s : slab.Slab E) (high : ℕ) → length s.slots ≤ high → VacantBelow s high → len (held_in s.slots) ≡ 0
  len-none_held s high all vacant = len-held_in s.slots ∙ count_none s.slots (λ i within. vacant i (omega arith))

  pub held_in-none : (slots : List (Option E)) → slots ≡ [] → held_in slots ≡ empty
  held_in-none slots e = empty_of_len _ (len-held_in slots ∙ ap (count_by is_some) e)

  -- a tag that is held stands for a place
  pub place_held : (slots : List (Option E)) (tag : ℕ) → is_some (get (held_in slots) tag) ≡ true
      → (2 ≤ tag) × (get (held_in slots) tag ≡ slice_index_or slots (tag - 2) None)
  place_held slots tag h = elim (place_of tag) [
    | inl low ↦ absurd (no_none _ (get-held_in_low slots tag low) h)
    | inr (i, e) ↦ (omega (arith, e), get-held_in slots tag (tag - 2) (omega (arith, e)))
  ]

  pub held_in-rewritten : (s : slab.Slab E) (key : ℕ) (entry : E) → slab.ContainsKey s key
      → held_in (slab.with_value s key entry).slots ≡ insert (held_in s.slots) (2 + key) entry
  held_in-rewritten s key entry h = held_in-filled s (slab.with_value s key entry) key entry (Updates-with_value s key entry h)

  -- once the least tag was given back, no key up to its own is held
  pub vacant_behind : (slots : List (Option E)) (old : FinMap nat_cmp E) (tag : ℕ) → held_in slots ≡ remove old tag → 2 ≤ tag → ((q : ℕ) → q < tag → get old q ≡ None)
      → (key : ℕ) → key < tag - 2 + 1 → slice_index_or slots key None ≡ None
  vacant_behind slots old tag is from least key below =
      sym (get-held_in slots (key + 2) key (omega arith)) ∙ ap (λ m. get m (key + 2)) is ∙ get-remove nat_cmp_total old tag (key + 2)
      ∙ elim (same_or (key + 2) tag) [
        | inl e ↦ ap (λ b. cond b None (get old (key + 2))) (ties (key + 2) tag e)
        | inr not ↦ ap (λ b. cond b None (get old (key + 2))) (no_tie (key + 2) tag not) ∙ least (key + 2) (omega (arith, not))
      ]
