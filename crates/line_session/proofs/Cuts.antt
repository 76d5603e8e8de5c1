-- How a text is cut at a byte.
use Rattle.std.proofs.Common.{◌≡◌, ◌≢◌, Option, Some, None, Bor, MatchOption, ◌==◌, ◌<◌, ℕ, suc, List, [], ◌∷◌, ◌++◌, length, drop, get_or, true, false, not, refl, sym, ap, ◌∙◌, arith}
use Rattle.std.proofs.lemmas.Bool.{and_parts, and_from, not-true, not_from_false, both_ways, eq-eqb, ne_eqb}
use Rattle.std.proofs.lemmas.Str.Pattern.{IsSplitOnceResult, split_parts}
use Rattle.line_session.specs.Words.{lacks}

-- the byte that stands in front is not the one that the text lacks
pub differs : (c x : ℕ) (xs : List ℕ) → lacks c (x ∷ xs) ≡ true → (x == c) ≡ false
differs c x xs h = not-true (x == c) (and_parts (not (x == c)) (lacks c xs) h).0

pub after : (c x : ℕ) (xs : List ℕ) → lacks c (x ∷ xs) ≡ true → lacks c xs ≡ true
after c x xs h = (and_parts (not (x == c)) (lacks c xs) h).1

-- at the first such byte a text is cut in one way
pub cut_once : (c : ℕ) (xs ys us vs : List ℕ) → lacks c xs ≡ true → lacks c us ≡ true
    → xs ++ (c ∷ ys) ≡ us ++ (c ∷ vs) → (xs ≡ us) × (ys ≡ vs)
cut_once c [] ys [] vs h k e = (refl, ap (λ l. drop 1 l) e)
cut_once c [] ys (u ∷ us) vs h k e =
    absurd (both_ways (u == c) (differs c u us k) (eq-eqb u c (sym (ap (λ l. get_or l 0 c) e))))
cut_once c (x ∷ xs) ys [] vs h k e =
    absurd (both_ways (x == c) (differs c x xs h) (eq-eqb x c (ap (λ l. get_or l 0 c) e)))
cut_once c (x ∷ xs) ys (u ∷ us) vs h k e =
    let rest = cut_once c xs ys us vs (after c x xs h) (after c u us k) (ap (λ l. drop 1 l) e) in
    (ap (λ z. z ∷ xs) (ap (λ l. get_or l 0 c) e) ∙ ap (λ zs. u ∷ zs) rest.0, rest.1)

-- a text with such a byte does not lack it
pub lacks_no : (c : ℕ) (xs ys : List ℕ) → lacks c (xs ++ (c ∷ ys)) ≡ true → ⊥
lacks_no c [] ys h = both_ways (c == c) (differs c c ys h) (eq-eqb c c refl)
lacks_no c (x ∷ xs) ys h = lacks_no c xs ys (after c x (xs ++ (c ∷ ys)) h)

pub lacks_by_reads : (c : ℕ) (xs : List ℕ) → ((i : ℕ) → i < length xs → get_or xs i 0 ≢ c) → lacks c xs ≡ true
lacks_by_reads c [] h = refl
lacks_by_reads c (x ∷ xs) h =
    and_from (not (x == c)) (lacks c xs) (not_from_false (x == c) (ne_eqb x c (h 0 (omega arith))))
    (lacks_by_reads c xs (λ i l. h (suc i) (omega (arith, l))))

-- the clause of `split_once` at a space
pub cut_is : (bs : List ℕ) (r : Option (Bor (List ℕ) × Bor (List ℕ))) → IsSplitOnceResult 32 bs r
    → MatchOption r (lacks 32 bs ≡ true) (λ x. (bs ≡ x.0.now ++ (32 ∷ x.1.now)) × (lacks 32 x.0.now ≡ true))
cut_is bs None h = lacks_by_reads 32 bs (split_parts 32 bs None h (omega arith))
cut_is bs (Some x) h =
    let parts = split_parts 32 bs (Some x) h (omega arith) in
    (parts.0, lacks_by_reads 32 x.0.now parts.1)
