-- One place of a vector of sessions, as the code finds it.
use Rattle.std.proofs.Common.{◌≡◌, ◌-◌, ◌<◌, ℕ, zero, suc, List, Some, refl, ap, subst, length, arith, set, slice_index_or}
use Rattle.std.proofs.lemmas.Option.{slice_get_read}
use Rattle.core_world.specs.Sides.{session_at, put_at}

one_less : (k : ℕ) → suc k - 1 ≡ k
one_less k = omega arith

pub at_number : {S : Type 0} (xs : List S) (n : ℕ) (s : S) → (n ≡ 0 → ⊥) → n - 1 < length xs → s ≡ slice_index_or xs (n - 1) s → session_at xs n ≡ Some s
at_number xs zero s e less is = absurd (e refl)
at_number xs (suc k) s e less is =
    slice_get_read xs (length xs) k s refl (subst (λ j. j < length xs) (one_less k) less) (subst (λ j. s ≡ slice_index_or xs j s) (one_less k) is)

pub put_is : {S : Type 0} (xs : List S) (n : ℕ) (t : S) → (n ≡ 0 → ⊥) → set xs (n - 1) t ≡ put_at xs n t
put_is xs zero t e = absurd (e refl)
put_is xs (suc k) t e = ap (λ j. set xs j t) (one_less k)
