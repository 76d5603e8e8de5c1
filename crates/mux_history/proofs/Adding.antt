-- Two lists of counts are added place by place.
use Rattle.std.proofs.Common.{◌≡◌, ◌≢◌, inl, inr, ℕ, ◌+◌, ◌<◌, true, false, cond, List, length, sym, ◌∙◌, ap, arith}
use Rattle.std.specs.Prelude.{nat_lt, slice_index, slice_set}
use Rattle.std.proofs.lemmas.Bool.{cases_eq}
use Rattle.std.proofs.lemmas.Bool.Decides.{nat_tests}
use Rattle.std.proofs.lemmas.Grind.{get_or-set_at}
use Rattle.std.proofs.lemmas.List.{get_or-set_other}
use Rattle.mux_history.specs.Delaying.{plus_capped}

-- what stands at a place once those in front of `n` were added
abbrev pub AreAdded : (n : ℕ) → (xs a b : List ℕ) → Type 0
AreAdded n xs a b = (k : ℕ) → k < 13
    → slice_index xs k ≡ cond (nat_lt k n) (plus_capped (slice_index a k) (slice_index b k)) (slice_index a k)

not_yet : (n : ℕ) → nat_lt n n ≡ false
not_yet n = grind (arith, nat_tests)

now : (n : ℕ) → nat_lt n (n + 1) ≡ true
now n = grind (arith, nat_tests)

same : (k n : ℕ) → k ≢ n → nat_lt k n ≡ nat_lt k (n + 1)
same k n e = grind (arith, nat_tests)

pub one_more : (n y : ℕ) (xs a b : List ℕ) → n < 13 → length xs ≡ 13 → y ≡ plus_capped (slice_index xs n) (slice_index b n)
    → AreAdded n xs a b → AreAdded (n + 1) (slice_set xs n y) a b
one_more n y xs a b below long is before k within = elim (cases_eq k n) [
  | inl e ↦
      get_or-set_at xs n k y 0 e (omega arith)
      ∙ is
      ∙ ap (λ x. plus_capped x (slice_index b n)) (before n below ∙ ap (λ t. cond t (plus_capped (slice_index a n) (slice_index b n)) (slice_index a n)) (not_yet n))
      ∙ sym (ap (λ t. cond t (plus_capped (slice_index a n) (slice_index b n)) (slice_index a n)) (now n))
      ∙ ap (λ m. cond (nat_lt m (n + 1)) (plus_capped (slice_index a m) (slice_index b m)) (slice_index a m)) (sym e)
  | inr e ↦ get_or-set_other xs n k y 0 e ∙ before k within ∙ ap (λ t. cond t (plus_capped (slice_index a k) (slice_index b k)) (slice_index a k)) (same k n e)
]
