-- Numbers and values that a call hands on.
use Rattle.std.proofs.Common.{◌≡◌, ℕ, Bool, true, false, Some, None, Result, Ok, sym, subst}
use Rattle.std.specs.Prelude.{if◌then◌else◌, IfOk}

pub some_if : (b : Bool) (n place : ℕ) → Some place ≡ (if b then Some n else None) → n ≡ place
some_if true n place is = sym (cc)
some_if false n place is = absurd (cc)

-- what was so of a value that a call handed on as it was
pub handed : {A E : Type 0} (P : A → Type 0) (r : Result A E) (a : A) → IfOk r P → r ≡ Ok a → P a
handed P r a all is = subst (λ x. IfOk x P) is all
