-- Lists that are filled up to a number of elements.
use Rattle.std.proofs.Common.{ℕ, List, [], ◌∷◌, suc, zero, sym, ◌++◌, ◌+◌, ◌-◌, ◌≡◌, ◌<◌, ◌∙◌, ap, length, take, get_or, arith}
use Rattle.mux_history.specs.Log.{Log}
use Rattle.mux_history.specs.declared.record.Record.{Record}
use Rattle.mux_agree.specs.Walk.{joined}
use Rattle.mux_agree.proofs.Joined.{joined_more}

none_less : (n : ℕ) → n - 0 ≡ n
none_less n = omega arith

both_less : (n m : ℕ) → (suc n) - (suc m) ≡ n - m
both_less n m = omega arith

filled : {X : Type 0} (most : ℕ) (xs ys : List X) → take most xs ++ take (most - length (take most xs)) ys ≡ take most (xs ++ ys)
filled zero xs ys = ap (λ k. take k ys) (none_less 0)
filled (suc n) [] ys = ap (λ k. take k ys) (none_less (suc n))
filled (suc n) (x ∷ xs) ys =
    ap (λ k. x ∷ (take n xs ++ take k ys)) (both_less n (length (take n xs))) ∙ ap (λ zs. x ∷ zs) (filled n xs ys)

-- a list that was filled with `xs` is filled with `ys` too
pub filled_on : {X : Type 0} (most : ℕ) (xs ys old more new : List X) → old ≡ take most xs → more ≡ ys
    → new ≡ old ++ take (most - length old) more → new ≡ take most (xs ++ ys)
filled_on most xs ys old more new is_old is_more is_new =
    is_new
    ∙ (ap (λ o. o ++ take (most - length o) more) is_old
    ∙ (ap (λ m. take most xs ++ take (most - length (take most xs)) m) is_more ∙ filled most xs ys))

-- one epoch further
pub filled_epoch : (most : ℕ) (hs : List Log) (k : ℕ) (d : Log) (old more new : List Record) → k < length hs
    → old ≡ take most (joined (take k hs)) → more ≡ (get_or hs k d).records → new ≡ old ++ take (most - length old) more
    → new ≡ take most (joined (take (k + 1) hs))
filled_epoch most hs k d old more new h is_old is_more is_new =
    filled_on most (joined (take k hs)) (get_or hs k d).records old more new is_old is_more is_new
    ∙ sym (ap (take most) (joined_more hs k d h))
