-- What a test leaves of a list that answers by the element alone, and may change what it captured.
use Rattle.std.proofs.Common.{◌≡◌, Bool, true, false, cond, List, [], ◌∷◌, length, filter, refl, ap, ◌∙◌, arith}
use Rattle.std.specs.List.{items_where_true}
use Rattle.std.specs.List.Retain.{ReturnsInTurn, IsFiltered}

module _ {X F : Type 0} (R : F → X → Bool → F → Type 0) (test : X → Bool) (h : (f : F) (x : X) (b : Bool) (f' : F) → R f x b f' → b ≡ test x) where
  first_kept : (x : X) (xs : List X) (bs : List Bool) (b : Bool) → b ≡ test x → items_where_true bs xs ≡ filter test xs → items_where_true (b ∷ bs) (x ∷ xs) ≡ filter test (x ∷ xs)
  first_kept x xs bs true e rest = ap (λ l. x ∷ l) rest ∙ ap (λ a. cond a (x ∷ filter test xs) (filter test xs)) e
  first_kept x xs bs false e rest = rest ∙ ap (λ a. cond a (x ∷ filter test xs) (filter test xs)) e

  told : (bs : List Bool) (xs : List X) (f q : F) → length bs ≡ length xs → ReturnsInTurn R f bs xs q → items_where_true bs xs ≡ filter test xs
  told [] [] f q e t = refl
  told [] (x ∷ xs) f q e t = absurd (omega arith)
  told (b ∷ bs) [] f q e t = absurd t
  told (b ∷ bs) (x ∷ xs) f q e t = first_kept x xs bs b (h f x b t.0 t.1) (told bs xs t.0 q (omega arith) t.2)

  pub filtered : (f : F) (xs ys : List X) → IsFiltered R f xs ys → ys ≡ filter test xs
  filtered f xs ys k = k.4 ∙ told k.0 xs f k.1 k.2 k.3
