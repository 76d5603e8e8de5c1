-- Rows of one slot after another.
use Rattle.std.proofs.Common.{◌≡◌, ◌+◌, ◌++◌, ◌∷◌, ◌∙◌, ℕ, List, [], Option, Some, None, length, refl, sym, ap, append_assoc, arith}
use Rattle.std.proofs.lemmas.List.{append-nil, length-append}
use Rattle.std.proofs.lemmas.List.Elements.{All-push}
use Rattle.hub.specs.declared.admin.Row.{Row}
use Rattle.hub.specs.Reporting as reporting
use Rattle.hub.specs.Reporting.{AddsRow, AddsRows}

pub adds_none : {S : Type 0} (May : Option S → Type 0) (Is : S → Row → Type 0) (old : List Row) → AddsRows May Is 0 old old
adds_none May Is old = ([], [], refl, (λ k d less. absurd (omega (arith, less))), reporting.AreOf.none, sym (append-nil old))

one_more : {S : Type 0} (ss : List (Option S)) (s : Option S) (slots : ℕ) → length ss ≡ slots → length (ss ++ s ∷ []) ≡ slots + 1
one_more ss s slots is = length-append ss (s ∷ []) ∙ ap (λ n. n + 1) is

pub adds_more : {S : Type 0} (May : Option S → Type 0) (Is : S → Row → Type 0) (slots : ℕ) (old mid new : List Row)
    → AddsRows May Is slots old mid → (s : Option S) × May s × AddsRow Is s mid new → AddsRows May Is (slots + 1) old new
adds_more May Is slots old mid new (ss, more, len, all, are, is) (None, may, same) = (
  ss ++ None ∷ [],
  more,
  one_more ss None slots len,
  All-push May _ _ all may,
  reporting.AreOf.next None more refl are,
  same ∙ is,
)
adds_more May Is slots old mid new (ss, more, len, all, are, is) (Some s, may, (row, told, put)) = (
  ss ++ Some s ∷ [],
  more ++ row ∷ [],
  one_more ss (Some s) slots len,
  All-push May _ _ all may,
  reporting.AreOf.next (Some s) (more ++ row ∷ []) (row, told, refl) are,
  put ∙ (ap (λ xs. xs ++ row ∷ []) is ∙ append_assoc old more (row ∷ [])),
)
