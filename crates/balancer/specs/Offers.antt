-- One value offered to several servers, one after another.
use Rattle.std.specs.Prelude.{◌≡◌, ◌⊎◌, ℕ, List, [], ◌∷◌, Result, Ok, Err}

-- the first server accepts the value with this result
abbrev pub Accepted : {S T P C : Type 0} → (S → ℕ → T → Result P (C × T) → S → Type 0) → ℕ → S → T → Result P T → S
    → Type 0
Accepted {S} {T} {P} {C} offers server before value result after =
    (placed : P) × (result ≡ Ok placed) × offers before server value (Ok placed) after

-- the value was offered to these servers in turn, each of which refused it, up to the first that accepted it;
-- it comes back only where there was none
abbrev pub Offered : {S T P C : Type 0} → (S → ℕ → T → Result P (C × T) → S → Type 0) → List ℕ → S → T → Result P T
    → S → Type 0
Offered offers [] before value result after = (result ≡ Err value) × (after ≡ before)
Offered {S} {T} {P} {C} offers (server ∷ rest) before value result after =
    Accepted offers server before value result after
    ⊎ ((why : C) × (back : T) × (between : S)
    × offers before server value (Err (why, back)) between
    × Offered offers rest between back result after)
