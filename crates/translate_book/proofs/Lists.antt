-- Lists of entries, and their parts.
use Rattle.std.proofs.Common.{◌≡◌, ℕ, suc, zero, ◌+◌, ◌-◌, ◌<◌, ◌≤◌, ◌==◌, ◌&&◌, true, false, cond, List, [], ◌∷◌, drop, get_or, length, refl, find, slice_get, Some, ap, ◌∙◌, arith, if◌then◌else◌}
use Rattle.std.proofs.lemmas.Option.{slice_get_read}
use Rattle.translate_book.specs.declared.entry.Entry.{Entry}
use Rattle.std.specs.Option.{option_map}
use Rattle.translate_book.specs.Entries.{is_open, owes_recall}
use Rattle.translate_book.specs.Book.{open_at, open_count, first_owing}

-- the list from a place on begins with what stands there
pub drop_at : {X : Type 0} (es : List X) (i : ℕ) (p : X) → slice_get es i ≡ Some p → drop i es ≡ p ∷ drop (suc i) es
drop_at [] i p at = cc
drop_at (e ∷ es) zero p at = let q : e ≡ p = cc in ap (λ x. x ∷ es) q
drop_at (e ∷ es) (suc i) p at = drop_at es i p at

-- an element that was read stands at its place
pub read : {X : Type 0} (es : List X) (i : ℕ) (x : X) → i < length es → x ≡ get_or es i x → slice_get es i ≡ Some x
read es i x within is = slice_get_read es (length es) i x refl within is

-- one place further back there is one entry more
pub drop_before : {X : Type 0} (es : List X) (i : ℕ) (p : X) → slice_get es (i - 1) ≡ Some p → 0 < i → drop (i - 1) es ≡ p ∷ drop i es
drop_before es i p at above =
    let next : suc (i - 1) ≡ i = omega arith in
    drop_at es (i - 1) p at ∙ ap (λ k. p ∷ drop k es) next

-- nothing stands behind the end
pub drop_end : {X : Type 0} (es : List X) (i : ℕ) → length es ≤ i → drop i es ≡ []
drop_end [] zero le = refl
drop_end [] (suc i) le = refl
drop_end (e ∷ es) zero le = absurd (omega arith)
drop_end (e ∷ es) (suc i) le = drop_end es i (omega arith)

pub open_at-open : (p : ℕ × Entry) (ps : List (ℕ × Entry)) (t : ℕ) → is_open p.1 ≡ true → open_at t (p ∷ ps) ≡ cond (p.1.tag == t) (Some p.0) (open_at t ps)
open_at-open p ps t o = ap (λ b. if b && p.1.tag == t then Some p.0 else open_at t ps) o

pub open_at-shut : (p : ℕ × Entry) (ps : List (ℕ × Entry)) (t : ℕ) → is_open p.1 ≡ false → open_at t (p ∷ ps) ≡ open_at t ps
open_at-shut p ps t o = ap (λ b. if b && p.1.tag == t then Some p.0 else open_at t ps) o

pub open_count-open : (p : ℕ × Entry) (ps : List (ℕ × Entry)) → is_open p.1 ≡ true → open_count (p ∷ ps) ≡ open_count ps + 1
open_count-open p ps o = ap (λ b. if b then open_count ps + 1 else open_count ps) o

pub open_count-shut : (p : ℕ × Entry) (ps : List (ℕ × Entry)) → is_open p.1 ≡ false → open_count (p ∷ ps) ≡ open_count ps
open_count-shut p ps o = ap (λ b. if b then open_count ps + 1 else open_count ps) o

pub first_owing-here : (p : ℕ × Entry) (ps : List (ℕ × Entry)) → owes_recall p.1 ≡ true → first_owing (p ∷ ps) ≡ Some p.0
first_owing-here p ps o = ap (λ b. option_map (λ (q : ℕ × Entry). q.0) (cond b (Some p) (find (λ q. owes_recall q.1) ps))) o

pub first_owing-later : (p : ℕ × Entry) (ps : List (ℕ × Entry)) → owes_recall p.1 ≡ false → first_owing (p ∷ ps) ≡ first_owing ps
first_owing-later p ps o = ap (λ b. option_map (λ (q : ℕ × Entry). q.0) (cond b (Some p) (find (λ q. owes_recall q.1) ps))) o
