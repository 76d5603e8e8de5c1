-- Names that are joined by commas come apart again.
use Rattle.std.proofs.Common.{◌≡◌, ◌==◌, ℕ, nat_le, List, [], ◌∷◌, ◌++◌, length, true, ◌&&◌, refl, ap, ◌∙◌}
use Rattle.std.specs.List.{list_all, slice_split, onto_first, join_with_byte}
use Rattle.std.proofs.lemmas.Bool.{and_parts, eq-eqb}
use Rattle.std.proofs.lemmas.List.Splits.{slice_split-cons_yes, slice_split-cons_no}
use Rattle.line_session.specs.Words.{lacks, is_name}
use Rattle.line_session.proofs.Cuts.{after, differs}

-- the parts of a text
split_front : (c : ℕ) (xs ys : List ℕ) → lacks c xs ≡ true
    → slice_split (λ b. b == c) (xs ++ (c ∷ ys)) ≡ xs ∷ slice_split (λ b. b == c) ys
split_front c [] ys h = slice_split-cons_yes (λ b. b == c) c ys (eq-eqb c c refl)
split_front c (x ∷ xs) ys h =
    slice_split-cons_no (λ b. b == c) x (xs ++ (c ∷ ys)) (differs c x xs h)
    ∙ ap (λ parts. onto_first x parts) (split_front c xs ys (after c x xs h))

split_whole : (c : ℕ) (xs : List ℕ) → lacks c xs ≡ true → slice_split (λ b. b == c) xs ≡ xs ∷ []
split_whole c [] h = refl
split_whole c (x ∷ xs) h =
    slice_split-cons_no (λ b. b == c) x xs (differs c x xs h)
    ∙ ap (λ parts. onto_first x parts) (split_whole c xs (after c x xs h))

no_comma : (name : List ℕ) → is_name name ≡ true → lacks 44 name ≡ true
no_comma name h =
    (and_parts (lacks 32 name) (lacks 44 name) (and_parts (nat_le 1 (length name)) (lacks 32 name && lacks 44 name) h).1).1

-- names that are joined come apart again
pub split_joined : (name : List ℕ) (names : List (List ℕ)) → list_all is_name (name ∷ names) ≡ true
    → slice_split (λ b. b == 44) (join_with_byte 44 (name ∷ names)) ≡ name ∷ names
split_joined name [] h = split_whole 44 name (no_comma name (and_parts (is_name name) true h).0)
split_joined name (next ∷ names) h =
    let parts = and_parts (is_name name) (list_all is_name (next ∷ names)) h in
    split_front 44 name (join_with_byte 44 (next ∷ names)) (no_comma name parts.0)
    ∙ ap (λ rest. name ∷ rest) (split_joined next names parts.1)
