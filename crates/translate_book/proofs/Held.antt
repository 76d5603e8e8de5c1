-- The entries that are in the book, among those that left it.
use Rattle.std.proofs.Common.{◌≡◌, ℕ, suc, zero, ◌+◌, ◌<◌, ◌≤◌, Bool, true, false, cond, nat_eq, List, [], ◌∷◌, ◌++◌, length, drop, set, slice_get, slice_index_or, subst, not, ◌&&◌, ◌||◌, Option, Some, None, IsSomeAnd, IsTrue, refl, sym, ap, ◌∙◌, arith, if◌then◌else◌}
use Rattle.std.proofs.lemmas.Bool.{eq-eqb, eqb-true, ne_eqb}
use Rattle.std.proofs.lemmas.List.Elements.{filter-append}
use Rattle.std.specs.Map.{lookup, set_value}
use Rattle.translate_book.specs.declared.entry.AnswerState.{AnswerState}
use Rattle.translate_book.specs.declared.entry.AnswerState.TheVariants.{Open, Shut, Answered}
use Rattle.translate_book.specs.declared.entry.Entry.{Entry}
use Rattle.translate_book.specs.Entries.{is_open, is_held, owes_recall, is_open_answer, is_due_note, is_due_answer, is_shut_answer, is_noted_in}
use Rattle.translate_book.specs.Book.{entry_at, open_at, open_count, first_owing, held_in, changed, kept, IsOnce, Rises}
use Rattle.translate_book.proofs.Closing.{open_at-kept, open_count-kept, Rises-kept}
use Rattle.translate_book.proofs.Lists.{first_owing-here, first_owing-later}
use Rattle.translate_book.proofs.Changed.{own, further, changed_here, changed_further}

module _ (seq : ℕ) where
  here : (p : ℕ × Entry) (es : List (ℕ × Entry)) → nat_eq seq p.0 ≡ true → lookup (nat_eq seq) (p ∷ es) ≡ Some p.1
  here p es at = ap (λ b. cond b (Some p.1) (lookup (nat_eq seq) es)) at

  later : (p : ℕ × Entry) (es : List (ℕ × Entry)) → nat_eq seq p.0 ≡ false → lookup (nat_eq seq) (p ∷ es) ≡ lookup (nat_eq seq) es
  later p es at = ap (λ b. cond b (Some p.1) (lookup (nat_eq seq) es)) at

  lookup-kept : (p : ℕ × Entry) (es : List (ℕ × Entry)) → nat_eq seq p.0 ≡ false → lookup (nat_eq seq) (kept p es) ≡ lookup (nat_eq seq) es
  lookup-kept p es at = by (is_held p.1)
    where
      by : (b : Bool) → lookup (nat_eq seq) (if b then p ∷ es else es) ≡ lookup (nat_eq seq) es
      by true = later p es at
      by false = refl

  -- a number that isn't there isn't in the book
  pub held-absent : (es : List (ℕ × Entry)) → lookup (nat_eq seq) es ≡ None → entry_at seq (held_in es) ≡ None
  held-absent [] none = refl
  held-absent (p ∷ es) none = by (nat_eq seq p.0) refl (held-absent es)
    where
      by : (b : Bool) → nat_eq seq p.0 ≡ b → (lookup (nat_eq seq) es ≡ None → entry_at seq (held_in es) ≡ None) → entry_at seq (held_in (p ∷ es)) ≡ None
      by true at more = let same : Some p.1 ≡ None = sym (here p es at) ∙ none in cc
      by false at more = lookup-kept p (held_in es) at ∙ more (sym (later p es at) ∙ none)

  -- an entry that is held is in the book
  pub held-there : (es : List (ℕ × Entry)) (e : Entry) → lookup (nat_eq seq) es ≡ Some e → is_held e ≡ true → entry_at seq (held_in es) ≡ Some e
  held-there [] e is held = is
  held-there (p ∷ es) e is held = by (nat_eq seq p.0) refl (λ h. held-there es e h held)
    where
      by : (b : Bool) → nat_eq seq p.0 ≡ b → (lookup (nat_eq seq) es ≡ Some e → entry_at seq (held_in es) ≡ Some e) → entry_at seq (held_in (p ∷ es)) ≡ Some e
      by true at more =
          let mine : p.1 ≡ e = own seq (λ x. x) p es e at is in
          ap (λ b. lookup (nat_eq seq) (if b then p ∷ held_in es else held_in es)) (ap is_held mine ∙ held) ∙ here p (held_in es) at ∙ ap (λ x. Some x) mine
      by false at more = lookup-kept p (held_in es) at ∙ more (sym (later p es at) ∙ is)

  -- numbers that rise don't come again
  pub above : (low : ℕ) (es : List (ℕ × Entry)) (high : ℕ) → Rises low es high → seq ≤ low → lookup (nat_eq seq) es ≡ None
  above low [] high h le = refl
  above low (p ∷ es) high h le =
      let apart : nat_eq seq p.0 ≡ false = ne_eqb seq p.0 (λ e. let up = h.0 in omega (arith, e, up)) in
      later p es apart ∙ above p.0 es high h.1 (let up = h.0 in omega (arith, up))

  -- an entry that left isn't in the book
  pub held-left : (low : ℕ) (es : List (ℕ × Entry)) (high : ℕ) (e : Entry) → Rises low es high → lookup (nat_eq seq) es ≡ Some e → is_held e ≡ false → entry_at seq (held_in es) ≡ None
  held-left low [] high e h is left = refl
  held-left low (p ∷ es) high e h is left = by (nat_eq seq p.0) refl (λ x. held-left p.0 es high e h.1 x left)
    where
      by : (b : Bool) → nat_eq seq p.0 ≡ b → (lookup (nat_eq seq) es ≡ Some e → entry_at seq (held_in es) ≡ None) → entry_at seq (held_in (p ∷ es)) ≡ None
      by true at more =
          let mine : p.1 ≡ e = own seq (λ x. x) p es e at is in
          let same = eqb-true seq p.0 at in
          ap (λ b. lookup (nat_eq seq) (if b then p ∷ held_in es else held_in es)) (ap is_held mine ∙ left)
          ∙ held-absent es (above p.0 es high h.1 (omega (arith, same)))
      by false at more = lookup-kept p (held_in es) at ∙ more (sym (later p es at) ∙ is)

  -- one that is in the book is held
  pub held-found : (low : ℕ) (es : List (ℕ × Entry)) (high : ℕ) (e : Entry) → Rises low es high → entry_at seq (held_in es) ≡ Some e → IsSomeAnd (lookup (nat_eq seq) es) (λ x. IsTrue (is_held x))
  held-found low es high e h is = by (lookup (nat_eq seq) es) refl
    where
      held : (x : Entry) (b : Bool) → lookup (nat_eq seq) es ≡ Some x → is_held x ≡ b → IsTrue (is_held x)
      held x true at kept = kept
      held x false at kept = let clash : None ≡ Some e = sym (held-left low es high x h at kept) ∙ is in cc

      by : (o : Option Entry) → lookup (nat_eq seq) es ≡ o → IsSomeAnd o (λ x. IsTrue (is_held x))
      by None at = let clash : None ≡ Some e = sym (held-absent es at) ∙ is in cc
      by (Some x) at = held x (is_held x) at refl

  module _ (f : Entry → Entry) where
    -- a held entry that is written is changed in the book
    pub held-set : (es : List (ℕ × Entry)) (e : Entry) → lookup (nat_eq seq) es ≡ Some e → is_held e ≡ true → held_in (set_value (nat_eq seq) es (f e)) ≡ changed seq f (held_in es)
    held-set [] e is held = refl
    held-set (p ∷ es) e is held = by (nat_eq seq p.0) refl (λ h. held-set es e h held)
      where
        past : (b : Bool) (xs ys : List (ℕ × Entry)) → nat_eq seq p.0 ≡ false → xs ≡ changed seq f ys → (if b then p ∷ xs else xs) ≡ changed seq f (if b then p ∷ ys else ys)
        past true xs ys at same = ap (λ zs. p ∷ zs) same ∙ sym (changed_further seq f p ys at)
        past false xs ys at same = same

        by : (b : Bool) → nat_eq seq p.0 ≡ b → (lookup (nat_eq seq) es ≡ Some e → held_in (set_value (nat_eq seq) es (f e)) ≡ changed seq f (held_in es)) → held_in (set_value (nat_eq seq) (p ∷ es) (f e)) ≡ changed seq f (held_in (p ∷ es))
        by true at more =
            let mine : p.1 ≡ e = own seq f p es e at is in
            ap (λ b. held_in (cond b ((p.0, f e) ∷ es) (p ∷ set_value (nat_eq seq) es (f e)))) at
            ∙ ap (λ x. kept (p.0, f x) (held_in es)) (sym mine)
            ∙ sym (changed_here seq f p (held_in es) at)
            ∙ sym (ap (λ b. changed seq f (if b then p ∷ held_in es else held_in es)) (ap is_held mine ∙ held))
        by false at more =
            ap (λ b. held_in (cond b ((p.0, f e) ∷ es) (p ∷ set_value (nat_eq seq) es (f e)))) at
            ∙ past (is_held p.1) (held_in (set_value (nat_eq seq) es (f e))) (held_in es) at (more (further seq f p es e at is))

    -- how many a change leaves
    pub length-changed_stays : (es : List (ℕ × Entry)) (e : Entry) → entry_at seq es ≡ Some e → is_held (f e) ≡ true → length (changed seq f es) ≡ length es
    length-changed_stays [] e is stays = refl
    length-changed_stays (p ∷ es) e is stays = by (nat_eq seq p.0) refl (λ h. length-changed_stays es e h stays)
      where
        by : (b : Bool) → nat_eq seq p.0 ≡ b → (entry_at seq es ≡ Some e → length (changed seq f es) ≡ length es) → length (changed seq f (p ∷ es)) ≡ length (p ∷ es)
        by true at more =
            let mine : p.1 ≡ e = own seq f p es e at is in
            ap length (changed_here seq f p es at) ∙ ap (λ b. length (if b then (p.0, f p.1) ∷ es else es)) (ap (λ x. is_held (f x)) mine ∙ stays)
        by false at more = ap length (changed_further seq f p es at) ∙ ap (λ n. suc n) (more (further seq f p es e at is))

    pub length-changed_leaves : (es : List (ℕ × Entry)) (e : Entry) → entry_at seq es ≡ Some e → is_held (f e) ≡ false → length es ≡ length (changed seq f es) + 1
    length-changed_leaves [] e is leaves = cc
    length-changed_leaves (p ∷ es) e is leaves = by (nat_eq seq p.0) refl (λ h. length-changed_leaves es e h leaves)
      where
        by : (b : Bool) → nat_eq seq p.0 ≡ b → (entry_at seq es ≡ Some e → length es ≡ length (changed seq f es) + 1) → length (p ∷ es) ≡ length (changed seq f (p ∷ es)) + 1
        by true at more =
            let mine : p.1 ≡ e = own seq f p es e at is in
            let gone : length (changed seq f (p ∷ es)) ≡ length es = ap length (changed_here seq f p es at) ∙ ap (λ b. length (if b then (p.0, f p.1) ∷ es else es)) (ap (λ x. is_held (f x)) mine ∙ leaves) in
            omega (arith, gone)
        by false at more =
            let rest = more (further seq f p es e at is) in
            let next = ap length (changed_further seq f p es at) in
            omega (arith, rest, next)

  pub Rises-set : (low : ℕ) (es : List (ℕ × Entry)) (high : ℕ) (w : Entry) → Rises low es high → Rises low (set_value (nat_eq seq) es w) high
  Rises-set low [] high w h = h
  Rises-set low (p ∷ es) high w h = by (nat_eq seq p.0) (Rises-set p.0 es high w h.1)
    where
      by : (b : Bool) → Rises p.0 (set_value (nat_eq seq) es w) high → Rises low (cond b ((p.0, w) ∷ es) (p ∷ set_value (nat_eq seq) es w)) high
      by true rest = h
      by false rest = (h.0, rest)

-- an entry that stands at a place is written there
module _ (seq : ℕ) (e : Entry) where
  pub above_low : (low : ℕ) (es : List (ℕ × Entry)) (high i : ℕ) → Rises low es high → slice_get es i ≡ Some (seq, e) → low < seq
  above_low low [] high i h at = cc
  above_low low (p ∷ es) high zero h at = let same : p ≡ (seq, e) = cc in subst (λ (q : ℕ × Entry). low < q.0) same h.0
  above_low low (p ∷ es) high (suc i) h at = let rest = above_low p.0 es high i h.1 at in let up = h.0 in omega (arith, rest, up)

  pub found_at : (low : ℕ) (es : List (ℕ × Entry)) (high i : ℕ) → Rises low es high → slice_get es i ≡ Some (seq, e) → lookup (nat_eq seq) es ≡ Some e
  found_at low [] high i h at = cc
  found_at low (p ∷ es) high zero h at =
      let same : p ≡ (seq, e) = cc in
      here seq p es (eq-eqb seq p.0 (sym (ap (λ (q : ℕ × Entry). q.0) same))) ∙ ap (λ (q : ℕ × Entry). Some q.1) same
  found_at low (p ∷ es) high (suc i) h at =
      let up = above_low p.0 es high i h.1 at in
      later seq p es (ne_eqb seq p.0 (λ same. omega (arith, same, up))) ∙ found_at p.0 es high i h.1 at

  pub set_at : (low : ℕ) (es : List (ℕ × Entry)) (high i : ℕ) (w : Entry) → Rises low es high → slice_get es i ≡ Some (seq, e) → set es i (seq, w) ≡ set_value (nat_eq seq) es w
  set_at low [] high i w h at = cc
  set_at low (p ∷ es) high zero w h at =
      let same : p ≡ (seq, e) = cc in
      let mine : seq ≡ p.0 = sym (ap (λ (q : ℕ × Entry). q.0) same) in
      ap (λ (n : ℕ). (n, w) ∷ es) mine ∙ sym (ap (λ b. cond b ((p.0, w) ∷ es) (p ∷ set_value (nat_eq seq) es w)) (eq-eqb seq p.0 mine))
  set_at low (p ∷ es) high (suc i) w h at =
      let up = above_low p.0 es high i h.1 at in
      ap (λ xs. p ∷ xs) (set_at p.0 es high i w h.1 at)
      ∙ sym (ap (λ b. cond b ((p.0, w) ∷ es) (p ∷ set_value (nat_eq seq) es w)) (ne_eqb seq p.0 (λ same. omega (arith, same, up))))

-- what stands at a place
pub record Standing (es : List (ℕ × Entry)) (i : ℕ) (q : ℕ × Entry) : Type 0 where
  pub stands : slice_get es i ≡ Some q
  pub held : is_held q.1 ≡ true

pub standing : (es : List (ℕ × Entry)) (i : ℕ) (q : ℕ × Entry) → IsSomeAnd (slice_get es i) (λ p. IsTrue (is_held p.1)) → q ≡ slice_index_or es i q → Standing es i q
standing [] i q held is = absurd held
standing (p ∷ es) zero q held is = record { stands = ap (λ (x : ℕ × Entry). Some x) (sym is); held = ap (λ (x : ℕ × Entry). is_held x.1) is ∙ held }
standing (p ∷ es) (suc i) q held is = let rest = standing es i q held is in record { stands = rest.stands; held = rest.held }

pub Rises-held : (low : ℕ) (es : List (ℕ × Entry)) (high : ℕ) → Rises low es high → Rises low (held_in es) high
Rises-held low [] high h = h
Rises-held low (p ∷ es) high h = Rises-kept low p (held_in es) high (h.0, Rises-held p.0 es high h.1)

-- those that are held are held
pub held-held : (es : List (ℕ × Entry)) → held_in (held_in es) ≡ held_in es
held-held [] = refl
held-held (p ∷ es) = by (is_held p.1) refl (held-held es)
  where
    by : (b : Bool) → is_held p.1 ≡ b → held_in (held_in es) ≡ held_in es → held_in (if b then p ∷ held_in es else held_in es) ≡ (if b then p ∷ held_in es else held_in es)
    by true at rest = ap (λ b. if b then p ∷ held_in (held_in es) else held_in (held_in es)) at ∙ ap (λ zs. p ∷ zs) rest
    by false at rest = rest

-- a new entry is held
pub held-push : (es : List (ℕ × Entry)) (p : ℕ × Entry) → is_held p.1 ≡ true → held_in (es ++ p ∷ []) ≡ held_in es ++ p ∷ []
held-push es p held = filter-append (λ q. is_held q.1) es (p ∷ []) ∙ ap (λ b. held_in es ++ (if b then p ∷ [] else [])) held

-- an open entry is held
pub held-open : (p : ℕ × Entry) (es : List (ℕ × Entry)) → is_open p.1 ≡ true → held_in (p ∷ es) ≡ p ∷ held_in es
held-open p es o = by p.1.answer (is_due_note p.1.note) o
  where
    by : (a : AnswerState) (b : Bool) → is_open_answer a ≡ true → (if b || is_due_answer a then p ∷ held_in es else held_in es) ≡ p ∷ held_in es
    by Open true h = refl
    by Open false h = refl
    by Shut b h = cc
    by Answered b h = cc

-- those that left are not open
pub open_at-held : (t : ℕ) (p : ℕ × Entry) (es : List (ℕ × Entry)) → open_at t (held_in (p ∷ es)) ≡ open_at t (p ∷ held_in es)
open_at-held t p es = open_at-kept t p (held_in es)

pub open_count-held : (p : ℕ × Entry) (es : List (ℕ × Entry)) → open_count (held_in (p ∷ es)) ≡ open_count (p ∷ held_in es)
open_count-held p es = open_count-kept p (held_in es)

pub open_count-held_drop : (es : List (ℕ × Entry)) (i : ℕ) → open_count (held_in (drop i es)) ≤ open_count (held_in es)
open_count-held_drop es zero = omega arith
open_count-held_drop [] (suc i) = omega arith
open_count-held_drop (p ∷ es) (suc i) = by (is_open p.1) (open_count-held_drop es i) (open_count-held p es)
  where
    by : (b : Bool) → open_count (held_in (drop i es)) ≤ open_count (held_in es) → open_count (held_in (p ∷ es)) ≡ (if b then open_count (held_in es) + 1 else open_count (held_in es)) → open_count (held_in (drop i es)) ≤ open_count (held_in (p ∷ es))
    by true h e = omega (arith, h, e)
    by false h e = omega (arith, h, e)

pub IsOnce-held_drop : (es : List (ℕ × Entry)) (i : ℕ) → IsOnce (held_in es) → IsOnce (held_in (drop i es))
IsOnce-held_drop es zero h = h
IsOnce-held_drop [] (suc i) h = h
IsOnce-held_drop (p ∷ es) (suc i) h = IsOnce-held_drop es i (rest (is_held p.1) h)
  where
    rest : (b : Bool) → IsOnce (if b then p ∷ held_in es else held_in es) → IsOnce (held_in es)
    rest true o = o.1
    rest false o = o

owes_held : (e : Entry) → is_held e ≡ false → owes_recall e ≡ false
owes_held e left = by e.answer (is_due_note e.note) left
  where
    by : (a : AnswerState) (b : Bool) → (b || is_due_answer a) ≡ false → (is_shut_answer a && (is_noted_in e.note && not e.recalled)) ≡ false
    by Open b h = refl
    by Shut true h = cc
    by Shut false h = cc
    by Answered b h = refl

-- an entry that owes a recall is held
pub first_owing-held : (es : List (ℕ × Entry)) → first_owing (held_in es) ≡ first_owing es
first_owing-held [] = refl
first_owing-held (p ∷ es) = by (is_held p.1) refl (first_owing-held es)
  where
    by : (b : Bool) → is_held p.1 ≡ b → first_owing (held_in es) ≡ first_owing es → first_owing (if b then p ∷ held_in es else held_in es) ≡ first_owing (p ∷ es)
    by true at rest = either (owes_recall p.1) refl rest
      where
        either : (c : Bool) → owes_recall p.1 ≡ c → first_owing (held_in es) ≡ first_owing es → first_owing (p ∷ held_in es) ≡ first_owing (p ∷ es)
        either true o r = first_owing-here p (held_in es) o ∙ sym (first_owing-here p es o)
        either false o r = first_owing-later p (held_in es) o ∙ r ∙ sym (first_owing-later p es o)
    by false at rest = rest ∙ sym (first_owing-later p es (owes_held p.1 at))
