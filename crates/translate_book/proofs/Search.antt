-- A search for a number among numbers that rise.
use Rattle.std.proofs.Common.{◌≡◌, ℕ, suc, zero, ◌<◌, ◌≤◌, cond, nat_eq, List, [], ◌∷◌, length, slice_index_or, Some, None, Result, Ok, Err, IfOk, IfErr, refl, sym, ap, ◌∙◌, arith}
use Rattle.std.proofs.lemmas.Bool.{ne_eqb}
use Rattle.std.proofs.lemmas.Bool.Decides.{nat_tests}
use Rattle.std.proofs.lemmas.Cmp.{ranked}
use Rattle.std.proofs.lemmas.List.Sorted.{IsNonDecreasingBy-from_default}
use Rattle.std.specs.List.Sorted.{IsSearchInRange, IsBinarySearchResult, IsNonDecreasingBy}
use Rattle.std.specs.Map.{lookup}
use Rattle.std.specs.Ordering.{nat_cmp, ordering_index}
use Rattle.translate_book.specs.declared.entry.Entry.{Entry}
use Rattle.translate_book.specs.Entries.{beginning}
use Rattle.translate_book.specs.Book.{entry_at, Rises}

no_entry : ℕ × Entry
no_entry = (0, beginning 0 0)

abbrev number_at : List (ℕ × Entry) → ℕ → ℕ
number_at es k = let p = slice_index_or es k no_entry in p.0

at_least : (low : ℕ) (es : List (ℕ × Entry)) (high k : ℕ) → Rises low es high → k < length es → low < number_at es k
at_least low [] high k h lt = absurd (omega (arith, lt))
at_least low (p ∷ es) high zero h lt = h.0
at_least low (p ∷ es) high (suc k) h lt = let up = h.0 in let more = at_least p.0 es high k h.1 (omega (arith, lt)) in omega (arith, more, up)

rising : (low : ℕ) (es : List (ℕ × Entry)) (high : ℕ) → Rises low es high → (i j : ℕ) → i < j → j < length es → number_at es i < number_at es j
rising low [] high h i j lt within = absurd (omega (arith, within))
rising low (p ∷ es) high h i zero lt within = absurd (omega (arith, lt))
rising low (p ∷ es) high h zero (suc j) lt within = at_least p.0 es high j h.1 (omega (arith, within))
rising low (p ∷ es) high h (suc i) (suc j) lt within = rising p.0 es high h.1 i j (omega (arith, lt)) (omega (arith, within))

-- no place has the number
none_anywhere : (n : ℕ) (es : List (ℕ × Entry)) → ((k : ℕ) → k < length es → number_at es k ≡ n → ⊥) → entry_at n es ≡ None
none_anywhere n [] other = refl
none_anywhere n (p ∷ es) other =
    ap (λ b. cond b (Some p.1) (lookup (nat_eq n) es)) (ne_eqb n p.0 (λ e. other 0 (omega arith) (sym e)))
    ∙ none_anywhere n es (λ k lt. other (suc k) (omega (arith, lt)))

-- what the search for a number says
pub record Searched (es : List (ℕ × Entry)) (n : ℕ) (r : Result ℕ ℕ) : Type 0 where
  pub found : IfOk r (λ k. (k < length es) × ((d : ℕ × Entry) → (slice_index_or es k d).0 ≡ n))
  pub absent : IfErr r (λ k. entry_at n es ≡ None)

module _ (es : List (ℕ × Entry)) (high : ℕ) (rises : Rises 0 es high) (n : ℕ) where
  tests_rise : IsNonDecreasingBy (λ (p : ℕ × Entry). ordering_index (nat_cmp p.0 n)) es
  tests_rise = IsNonDecreasingBy-from_default (λ (p : ℕ × Entry). ordering_index (nat_cmp p.0 n)) es no_entry (λ i j le within.
      let rise : number_at es i ≤ number_at es j = grind (arith, rising 0 es high rises i j, λ (same : i ≡ j). ap (number_at es) same) in
      grind (arith, nat_tests))

  pub searched : (r : Result ℕ ℕ) → IsSearchInRange r (length es) → IsBinarySearchResult (λ (p : ℕ × Entry). nat_cmp p.0 n) es r → Searched es n r
  searched (Ok k) within equal = record { found = (within, λ d. ranked _ n _ (sym (equal d))); absent = tt }
  searched (Err k) within parted = record {
    found = tt;
    absent = none_anywhere n es (λ j lt e. grind (arith, before j, after j, lt, e));
  }
    where
      before : (j : ℕ) → j < k → number_at es j < n
      before j lt = ranked _ n _ (sym ((parted tests_rise).0 j no_entry (omega (arith, within, lt)) lt))

      after : (j : ℕ) → k ≤ j → j < length es → n < number_at es j
      after j le lt = ranked _ n _ (sym ((parted tests_rise).1 j no_entry le lt))
