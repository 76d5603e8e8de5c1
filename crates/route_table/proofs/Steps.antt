-- Results of one step after another.
use Rattle.std.proofs.Common.{◌≡◌, Result, Ok, Err, ap, ◌∙◌, inl, inr}
use Rattle.route_table.specs.Fault.{Fault, IsUnlessMemory, and_then}

pub failed : {A B : Type 0} (e : Fault) (r : Result A Fault) (next : A → Result B Fault) → Err e ≡ r → Err e ≡ and_then r next
failed e r next is = ap (λ s. and_then s next) is

pub passed : {A B : Type 0} (a : A) (r : Result A Fault) (next : A → Result B Fault) (b : Result B Fault) → Ok a ≡ r → b ≡ next a → b ≡ and_then r next
passed a r next b is same = same ∙ ap (λ s. and_then s next) is

pub ended : {A B : Type 0} (a : A) (r : Result A Fault) (next : A → Result B Fault) (b : Result B Fault) → Ok a ≡ r → IsUnlessMemory b (next a)
    → IsUnlessMemory b (and_then r next)
ended a r next b is (inl refused) = inl refused
ended a r next b is (inr same) = inr (passed a r next b is same)
