-- The entries of a book, by rising number.
use Rattle.std.proofs.Common.{◌≡◌, ℕ, ◌+◌, ◌≤◌, ◌||◌, Bool, true, false, cond, nat_eq, if◌then◌else◌, List, [], ◌∷◌, ◌++◌, Option, Some, None, refl, sym, ap, subst, ◌∙◌, arith}
use Rattle.mux_frame.specs.declared.frame.TheConstants.{MAX_TAG}
use Rattle.std.specs.Prelude.{◌&&◌, not, sum_by}
use Rattle.std.proofs.lemmas.Bool.{eqb-true}
use Rattle.std.proofs.lemmas.List.Sums.{sum_by-cons}
use Rattle.translate_book.specs.declared.entry.AnswerState.{AnswerState}
use Rattle.translate_book.specs.declared.entry.AnswerState.TheVariants.{Open, Shut, Answered}
use Rattle.translate_book.specs.declared.entry.Entry.{Entry}
use Rattle.translate_book.specs.Entries.{is_open, is_open_answer, is_shut_answer, is_due_answer, is_due_note, is_noted_in, is_held, is_note_due, is_answer_due, owes_recall}
use Rattle.translate_book.specs.Book.{entry_at, open_count, Rises, changed, kept}
use Rattle.translate_book.proofs.Changed.{own, further, changed_here, changed_further}
use Rattle.translate_book.proofs.Held.{above}
use Rattle.server_session.specs.State.{weight, opening, owes_at}
use Rattle.server_session.specs.Inside.{InTags}

abbrev pub Entries : Type 0
Entries = List (ℕ × Entry)

-- WHAT IS FOUND

here : (j : ℕ) (p : ℕ × Entry) (es : Entries) → nat_eq j p.0 ≡ true → entry_at j (p ∷ es) ≡ Some p.1
here j p es at = ap (λ b. cond b (Some p.1) (entry_at j es)) at

later : (j : ℕ) (p : ℕ × Entry) (es : Entries) → nat_eq j p.0 ≡ false → entry_at j (p ∷ es) ≡ entry_at j es
later j p es at = ap (λ b. cond b (Some p.1) (entry_at j es)) at

kept_later : (j : ℕ) (p : ℕ × Entry) (es : Entries) → nat_eq j p.0 ≡ false → entry_at j (kept p es) ≡ entry_at j es
kept_later j p es at = by (is_held p.1)
  where
    by : (b : Bool) → entry_at j (if b then p ∷ es else es) ≡ entry_at j es
    by true = later j p es at
    by false = refl

-- what a change leaves of its own entry
abbrev pub left_of : Entry → Option Entry
left_of e = if is_held e then Some e else None

module _ (seq : ℕ) (f : Entry → Entry) where
  pub entry_at-own : (low : ℕ) (es : Entries) (high : ℕ) (e : Entry) → Rises low es high → entry_at seq es ≡ Some e → entry_at seq (changed seq f es) ≡ left_of (f e)
  entry_at-own low [] high e h is = cc
  entry_at-own low (p ∷ ps) high e h is = by (nat_eq seq p.0) refl (entry_at-own p.0 ps high e h.1)
    where
      front : (b : Bool) → nat_eq seq p.0 ≡ true → entry_at seq (if b then (p.0, f p.1) ∷ ps else ps) ≡ (if b then Some (f p.1) else None)
      front true at = here seq (p.0, f p.1) ps at
      front false at = above seq p.0 ps high h.1 (let same = eqb-true seq p.0 at in omega (arith, same))

      by : (b : Bool) → nat_eq seq p.0 ≡ b → (entry_at seq ps ≡ Some e → entry_at seq (changed seq f ps) ≡ left_of (f e)) → entry_at seq (changed seq f (p ∷ ps)) ≡ left_of (f e)
      by true at more =
          ap (entry_at seq) (changed_here seq f p ps at) ∙ front (is_held (f p.1)) at
          ∙ ap (λ x. left_of (f x)) (own seq f p ps e at is)
      by false at more = ap (entry_at seq) (changed_further seq f p ps at) ∙ later seq p (changed seq f ps) at ∙ more (further seq f p ps e at is)

  pub entry_at-other : (j : ℕ) (es : Entries) → nat_eq j seq ≡ false → entry_at j (changed seq f es) ≡ entry_at j es
  entry_at-other j [] other = refl
  entry_at-other j (p ∷ ps) other = by (nat_eq seq p.0) refl (entry_at-other j ps other)
    where
      apart : nat_eq seq p.0 ≡ true → nat_eq j p.0 ≡ false
      apart at = ap (nat_eq j) (sym (eqb-true seq p.0 at)) ∙ other

      by : (b : Bool) → nat_eq seq p.0 ≡ b → entry_at j (changed seq f ps) ≡ entry_at j ps → entry_at j (changed seq f (p ∷ ps)) ≡ entry_at j (p ∷ ps)
      by true at more =
          ap (entry_at j) (changed_here seq f p ps at) ∙ kept_later j (p.0, f p.1) ps (apart at) ∙ sym (later j p ps (apart at))
      by false at more = ap (entry_at j) (changed_further seq f p ps at) ∙ ap (λ o. cond (nat_eq j p.0) (Some p.1) o) more

  pub Rises-changed : (low : ℕ) (es : Entries) (high : ℕ) → Rises low es high → Rises low (changed seq f es) high
  Rises-changed low [] high h = h
  Rises-changed low (p ∷ ps) high h = by (nat_eq seq p.0) refl (Rises-changed p.0 ps high h.1)
    where
      wider : (a b : ℕ) (es : Entries) → a ≤ b → Rises b es high → Rises a es high
      wider a b [] le r = let up : b ≤ high = r in omega (arith, le, up)
      wider a b (q ∷ qs) le r = (let up = r.0 in omega (arith, le, up), r.1)

      front : (b : Bool) → Rises low (if b then (p.0, f p.1) ∷ ps else ps) high
      front true = h
      front false = wider low p.0 ps (let up = h.0 in omega (arith, up)) h.1

      by : (b : Bool) → nat_eq seq p.0 ≡ b → Rises p.0 (changed seq f ps) high → Rises low (changed seq f (p ∷ ps)) high
      by true at more = subst (λ es. Rises low es high) (sym (changed_here seq f p ps at)) (front (is_held (f p.1)))
      by false at more = subst (λ es. Rises low es high) (sym (changed_further seq f p ps at)) (h.0, more)

  -- THE COUNTS

  pub sum-changed : (g : Entry → ℕ) → ((e : Entry) → is_held e ≡ false → g e ≡ 0) → (es : Entries) (e : Entry) → entry_at seq es ≡ Some e
      → sum_by (λ (p : ℕ × Entry). g p.1) (changed seq f es) + g e ≡ sum_by (λ (p : ℕ × Entry). g p.1) es + g (f e)
  sum-changed g none [] e is = cc
  sum-changed g none (p ∷ ps) e is = by (nat_eq seq p.0) refl (sum-changed g none ps e)
    where
      all : Entries → ℕ
      all xs = sum_by (λ (q : ℕ × Entry). g q.1) xs

      front : (b : Bool) → is_held (f p.1) ≡ b → sum_by (λ (q : ℕ × Entry). g q.1) (if b then (p.0, f p.1) ∷ ps else ps) ≡ g (f p.1) + sum_by (λ (q : ℕ × Entry). g q.1) ps
      front true held = sum_by-cons (λ (q : ℕ × Entry). g q.1) (p.0, f p.1) ps
      front false held = let zero = none (f p.1) held in omega (arith, zero)

      by : (b : Bool) → nat_eq seq p.0 ≡ b → (entry_at seq ps ≡ Some e → sum_by (λ (q : ℕ × Entry). g q.1) (changed seq f ps) + g e ≡ sum_by (λ (q : ℕ × Entry). g q.1) ps + g (f e))
          → sum_by (λ (q : ℕ × Entry). g q.1) (changed seq f (p ∷ ps)) + g e ≡ sum_by (λ (q : ℕ × Entry). g q.1) (p ∷ ps) + g (f e)
      by true at more =
          let mine : p.1 ≡ e = own seq f p ps e at is in
          let one = ap (λ xs. sum_by (λ (q : ℕ × Entry). g q.1) xs) (changed_here seq f p ps at) ∙ front (is_held (f p.1)) refl in
          let two = sum_by-cons (λ (q : ℕ × Entry). g q.1) p ps in
          let three = ap g mine in
          let four = ap (λ x. g (f x)) mine in
          omega (arith, one, two, three, four)
      by false at more =
          let rest = more (further seq f p ps e at is) in
          let one = ap (λ xs. sum_by (λ (q : ℕ × Entry). g q.1) xs) (changed_further seq f p ps at) ∙ sum_by-cons (λ (q : ℕ × Entry). g q.1) p (changed seq f ps) in
          let two = sum_by-cons (λ (q : ℕ × Entry). g q.1) p ps in
          omega (arith, rest, one, two)

  pub InTags-changed : ((e : Entry) → (f e).tag ≡ e.tag) → (es : Entries) → InTags es → InTags (changed seq f es)
  InTags-changed tags [] h = h
  InTags-changed tags (p ∷ ps) h = by (nat_eq seq p.0) refl (InTags-changed tags ps h.1)
    where
      front : (b : Bool) → InTags (if b then (p.0, f p.1) ∷ ps else ps)
      front true = (subst (λ t. t ≤ MAX_TAG) (sym (tags p.1)) h.0, h.1)
      front false = h.1

      by : (b : Bool) → nat_eq seq p.0 ≡ b → InTags (changed seq f ps) → InTags (changed seq f (p ∷ ps))
      by true at more = subst InTags (sym (changed_here seq f p ps at)) (front (is_held (f p.1)))
      by false at more = subst InTags (sym (changed_further seq f p ps at)) (h.0, more)

pub tag_at : (es : Entries) (seq : ℕ) (e : Entry) → InTags es → entry_at seq es ≡ Some e → e.tag ≤ MAX_TAG
tag_at [] seq e h is = cc
tag_at (p ∷ ps) seq e h is = by (nat_eq seq p.0) refl (tag_at ps seq e h.1)
  where
    by : (b : Bool) → nat_eq seq p.0 ≡ b → (entry_at seq ps ≡ Some e → e.tag ≤ MAX_TAG) → e.tag ≤ MAX_TAG
    by true at more = subst (λ (x : Entry). x.tag ≤ MAX_TAG) (own seq (λ x. x) p ps e at is) h.0
    by false at more = more (further seq (λ x. x) p ps e at is)

pub InTags-push : (es : Entries) (p : ℕ × Entry) → InTags es → p.1.tag ≤ MAX_TAG → InTags (es ++ p ∷ [])
InTags-push [] p h le = (le, tt)
InTags-push (q ∷ qs) p h le = (h.0, InTags-push qs p h.1 le)

-- as many are open as the sum says
pub open_count-sum : (es : Entries) → open_count es ≡ sum_by (λ (p : ℕ × Entry). opening p.1) es
open_count-sum [] = refl
open_count-sum (p ∷ ps) = by (is_open p.1) refl (open_count-sum ps) (sum_by-cons (λ (q : ℕ × Entry). opening q.1) p ps)
  where
    by : (b : Bool) → is_open p.1 ≡ b → open_count ps ≡ sum_by (λ (q : ℕ × Entry). opening q.1) ps
        → sum_by (λ (q : ℕ × Entry). opening q.1) (p ∷ ps) ≡ opening p.1 + sum_by (λ (q : ℕ × Entry). opening q.1) ps
        → open_count (p ∷ ps) ≡ sum_by (λ (q : ℕ × Entry). opening q.1) (p ∷ ps)
    by true is rest one =
        let here = ap (λ b. if b then open_count ps + 1 else open_count ps) is in
        let mine : opening p.1 ≡ 1 = ap (λ b. if b then 1 else 0) is in
        omega (arith, here, mine, rest, one)
    by false is rest one =
        let here = ap (λ b. if b then open_count ps + 1 else open_count ps) is in
        let mine : opening p.1 ≡ 0 = ap (λ b. if b then 1 else 0) is in
        omega (arith, here, mine, rest, one)

pub shut_unheld : (e : Entry) → is_held e ≡ false → is_open e ≡ false
shut_unheld e h = by (is_due_note e.note) e.answer h
  where
    by : (b : Bool) (a : AnswerState) → (b || is_due_answer a) ≡ false → is_open_answer a ≡ false
    by true Open h = cc
    by false Open h = cc
    by b Shut h = refl
    by b Answered h = refl

pub opening_unheld : (e : Entry) → is_held e ≡ false → opening e ≡ 0
opening_unheld e h = ap (λ b. if b then 1 else 0) (shut_unheld e h)

neither : (a b : Bool) → (a || b) ≡ false → (a ≡ false) × (b ≡ false)
neither true b h = cc
neither false b h = (refl, h)

pub weight_unheld : (e : Entry) → is_held e ≡ false → weight e ≡ 0
weight_unheld e h =
    let n = neither (is_note_due e) (is_answer_due e) h in
    rw (n.0, n.1, shut_unheld e h) refl

-- what a change leaves owes what the entry owes: one that leaves the book owes nothing
pub owes_left : (e : Entry) → owes_at (left_of e) ≡ owes_recall e
owes_left e = by (is_held e) refl
  where
    answered : (a : AnswerState) (z : Bool) → is_due_answer a ≡ false → (is_shut_answer a && z) ≡ false
    answered Open z h = cc
    answered Shut z h = cc
    answered Answered z h = refl

    by : (b : Bool) → is_held e ≡ b → owes_at (if b then Some e else None) ≡ owes_recall e
    by true h = refl
    by false h = sym (answered e.answer (is_noted_in e.note && not e.recalled) (neither (is_note_due e) (is_answer_due e) h).1)
