-- Changes never open an entry: what they leave of the tags in use, and of the order.
use Rattle.std.proofs.Common.{◌≡◌, ℕ, ◌+◌, ◌<◌, ◌≤◌, ◌==◌, ◌&&◌, ◌||◌, Bool, true, false, not, cond, nat_eq, if◌then◌else◌, List, [], ◌∷◌, length, Option, Some, None, IsSomeAnd, refl, sym, ap, subst, ◌∙◌, arith}
use Rattle.std.specs.Map.{lookup}
use Rattle.translate_book.specs.declared.recall.Why.{Why}
use Rattle.translate_book.specs.declared.entry.AnswerState.{AnswerState}
use Rattle.translate_book.specs.declared.entry.AnswerState.TheVariants.{Open, Shut, Answered}
use Rattle.translate_book.specs.declared.entry.Change.{Change}
use Rattle.translate_book.specs.declared.entry.Change.TheVariants as changes
use Rattle.translate_book.specs.declared.entry.Entry.{Entry}
use Rattle.translate_book.specs.Entries.{is_open, is_open_answer, is_due_answer, is_due_note, is_held, applied, shut_from}
use Rattle.translate_book.specs.Book.{entry_at, open_at, open_count, IsOnce, Rises, changed, kept}
use Rattle.translate_book.proofs.Changed.{own, further, changed_here, changed_further}
use Rattle.translate_book.proofs.Lists.{open_at-shut, open_count-shut}

-- an entry that isn't held isn't open
open_held : (e : Entry) → is_held e ≡ false → is_open e ≡ false
open_held e h = by (is_due_note e.note) e.answer h
  where
    by : (b : Bool) (a : AnswerState) → (b || is_due_answer a) ≡ false → is_open_answer a ≡ false
    by true Open h = cc
    by false Open h = cc
    by b Shut h = refl
    by b Answered h = refl

-- a change keeps the tag, and opens nothing
pub record Closing (f : Entry → Entry) : Type 0 where
  pub tag : (e : Entry) → (f e).tag ≡ e.tag
  pub shut : (e : Entry) → is_open e ≡ false → is_open (f e) ≡ false

shut_tag : (a : AnswerState) (why : Option Why) (e : Entry) → (shut_from a why e).tag ≡ e.tag
shut_tag Open why e = refl
shut_tag Shut why e = refl
shut_tag Answered why e = refl

shut_shut : (a : AnswerState) (why : Option Why) (e : Entry) → is_open e ≡ false → is_open (shut_from a why e) ≡ false
shut_shut Open why e h = refl
shut_shut Shut why e h = h
shut_shut Answered why e h = h

pub closing : (c : Change) → Closing (applied c)
closing (changes.Note place) = record { tag = λ e. refl; shut = λ e h. h }
closing (changes.Shut why) = record { tag = λ e. shut_tag e.answer why e; shut = λ e h. shut_shut e.answer why e h }
closing changes.Answer = record { tag = λ e. refl; shut = λ e h. refl }
closing changes.Unplace = record { tag = λ e. refl; shut = λ e h. refl }
closing changes.Recall = record { tag = λ e. refl; shut = λ e h. h }
closing changes.Again = record { tag = λ e. refl; shut = λ e h. h }

-- an entry that leaves had no tag in use
pub open_at-kept : (t : ℕ) (p : ℕ × Entry) (ps : List (ℕ × Entry)) → open_at t (kept p ps) ≡ open_at t (p ∷ ps)
open_at-kept t p ps = by (is_held p.1) refl
  where
    by : (b : Bool) → is_held p.1 ≡ b → open_at t (if b then p ∷ ps else ps) ≡ open_at t (p ∷ ps)
    by true h = refl
    by false h = sym (open_at-shut p ps t (open_held p.1 h))

pub open_count-kept : (p : ℕ × Entry) (ps : List (ℕ × Entry)) → open_count (kept p ps) ≡ open_count (p ∷ ps)
open_count-kept p ps = by (is_held p.1) refl
  where
    by : (b : Bool) → is_held p.1 ≡ b → open_count (if b then p ∷ ps else ps) ≡ open_count (p ∷ ps)
    by true h = refl
    by false h = sym (open_count-shut p ps (open_held p.1 h))

IsOnce-kept : (p : ℕ × Entry) (ps : List (ℕ × Entry)) → IsOnce (p ∷ ps) → IsOnce (kept p ps)
IsOnce-kept p ps once = by (is_held p.1)
  where
    by : (b : Bool) → IsOnce (if b then p ∷ ps else ps)
    by true = once
    by false = once.1

Rises-lower : (low next : ℕ) (ps : List (ℕ × Entry)) (high : ℕ) → low < next → Rises next ps high → Rises low ps high
Rises-lower low next [] high lt h = omega arith
Rises-lower low next (p ∷ ps) high lt h = (omega (arith, h.0), h.1)

pub Rises-kept : (low : ℕ) (p : ℕ × Entry) (ps : List (ℕ × Entry)) (high : ℕ) → Rises low (p ∷ ps) high → Rises low (kept p ps) high
Rises-kept low p ps high h = by (is_held p.1)
  where
    by : (b : Bool) → Rises low (if b then p ∷ ps else ps) high
    by true = h
    by false = Rises-lower low p.0 ps high h.0 h.1

head_none : (b : Bool) (n : ℕ) (o : Option ℕ) → (if b then Some n else o) ≡ None → b ≡ false
head_none true n o h = cc
head_none false n o h = refl

rest_none : (b : Bool) (n : ℕ) (o : Option ℕ) → (if b then Some n else o) ≡ None → o ≡ None
rest_none true n o h = cc
rest_none false n o h = h

and_false : (c : Bool) → (c && false) ≡ false
and_false true = refl
and_false false = refl

module _ (f : Entry → Entry) (closes : Closing f) where
  -- an open entry was open before
  was_open : (e : Entry) → is_open (f e) ≡ true → is_open e ≡ true
  was_open e now = by (is_open e) refl
    where
      by : (b : Bool) → is_open e ≡ b → is_open e ≡ true
      by true is = is
      by false is = let no : true ≡ false = sym now ∙ closes.shut e is in cc

  -- what wasn't in use on a tag isn't then
  test_false : (t : ℕ) (e : Entry) → (is_open e && e.tag == t) ≡ false → (is_open (f e) && (f e).tag == t) ≡ false
  test_false t e h = by (is_open e) refl
    where
      by : (b : Bool) → is_open e ≡ b → (is_open (f e) && (f e).tag == t) ≡ false
      by true is =
          let other : (e.tag == t) ≡ false = sym (ap (λ b. b && e.tag == t) is) ∙ h in
          ap (λ x. is_open (f e) && x) (ap (λ n. n == t) (closes.tag e) ∙ other) ∙ and_false (is_open (f e))
      by false is = ap (λ b. b && (f e).tag == t) (closes.shut e is)

  module _ (seq : ℕ) where
    -- a tag that isn't in use stays so
    pub open_at-changed_none : (t : ℕ) (es : List (ℕ × Entry)) → open_at t es ≡ None → open_at t (changed seq f es) ≡ None
    open_at-changed_none t [] none = none
    open_at-changed_none t (p ∷ ps) none = by (nat_eq seq p.0) refl (open_at-changed_none t ps rest)
      where
        test : (is_open p.1 && p.1.tag == t) ≡ false
        test = head_none (is_open p.1 && p.1.tag == t) p.0 (open_at t ps) none

        rest : open_at t ps ≡ None
        rest = rest_none (is_open p.1 && p.1.tag == t) p.0 (open_at t ps) none

        by : (b : Bool) → nat_eq seq p.0 ≡ b → open_at t (changed seq f ps) ≡ None → open_at t (changed seq f (p ∷ ps)) ≡ None
        by true at more =
            ap (open_at t) (changed_here seq f p ps at) ∙ open_at-kept t (p.0, f p.1) ps
            ∙ ap (λ b. if b then Some p.0 else open_at t ps) (test_false t p.1 test) ∙ rest
        by false at more =
            ap (open_at t) (changed_further seq f p ps at)
            ∙ ap (λ b. if b then Some p.0 else open_at t (changed seq f ps)) test ∙ more

    pub IsOnce-changed : (es : List (ℕ × Entry)) → IsOnce es → IsOnce (changed seq f es)
    IsOnce-changed [] once = once
    IsOnce-changed (p ∷ ps) once = by (nat_eq seq p.0) refl (IsOnce-changed ps once.1)
      where
        by : (b : Bool) → nat_eq seq p.0 ≡ b → IsOnce (changed seq f ps) → IsOnce (changed seq f (p ∷ ps))
        by true at more =
            let front : IsOnce ((p.0, f p.1) ∷ ps) = (λ o. subst (λ n. open_at n ps ≡ None) (sym (closes.tag p.1)) (once.0 (was_open p.1 o)), once.1) in
            subst IsOnce (sym (changed_here seq f p ps at)) (IsOnce-kept (p.0, f p.1) ps front)
        by false at more =
            let front : IsOnce (p ∷ changed seq f ps) = (λ o. open_at-changed_none p.1.tag ps (once.0 o), more) in
            subst IsOnce (sym (changed_further seq f p ps at)) front

    -- where the entry stays open, or wasn't, the tags in use are the same
    pub open_at-changed_same : (t : ℕ) (es : List (ℕ × Entry)) (e : Entry) → entry_at seq es ≡ Some e → is_open (f e) ≡ is_open e → open_at t (changed seq f es) ≡ open_at t es
    open_at-changed_same t [] e is same = refl
    open_at-changed_same t (p ∷ ps) e is same = by (nat_eq seq p.0) refl (λ h. open_at-changed_same t ps e h same)
      where
        by : (b : Bool) → nat_eq seq p.0 ≡ b → (entry_at seq ps ≡ Some e → open_at t (changed seq f ps) ≡ open_at t ps) → open_at t (changed seq f (p ∷ ps)) ≡ open_at t (p ∷ ps)
        by true at more =
            let mine : p.1 ≡ e = own seq f p ps e at is in
            let still : is_open (f p.1) ≡ is_open p.1 = ap (λ x. is_open (f x)) mine ∙ same ∙ sym (ap is_open mine) in
            ap (open_at t) (changed_here seq f p ps at) ∙ open_at-kept t (p.0, f p.1) ps
            ∙ ap (λ b. if b && (f p.1).tag == t then Some p.0 else open_at t ps) still
            ∙ ap (λ n. if is_open p.1 && n == t then Some p.0 else open_at t ps) (closes.tag p.1)
        by false at more =
            ap (open_at t) (changed_further seq f p ps at)
            ∙ ap (λ o. if is_open p.1 && p.1.tag == t then Some p.0 else o) (more (further seq f p ps e at is))

    pub open_count-changed_same : (es : List (ℕ × Entry)) (e : Entry) → entry_at seq es ≡ Some e → is_open (f e) ≡ is_open e → open_count (changed seq f es) ≡ open_count es
    open_count-changed_same [] e is same = refl
    open_count-changed_same (p ∷ ps) e is same = by (nat_eq seq p.0) refl (λ h. open_count-changed_same ps e h same)
      where
        by : (b : Bool) → nat_eq seq p.0 ≡ b → (entry_at seq ps ≡ Some e → open_count (changed seq f ps) ≡ open_count ps) → open_count (changed seq f (p ∷ ps)) ≡ open_count (p ∷ ps)
        by true at more =
            let mine : p.1 ≡ e = own seq f p ps e at is in
            let still : is_open (f p.1) ≡ is_open p.1 = ap (λ x. is_open (f x)) mine ∙ same ∙ sym (ap is_open mine) in
            ap open_count (changed_here seq f p ps at) ∙ open_count-kept (p.0, f p.1) ps
            ∙ ap (λ b. if b then open_count ps + 1 else open_count ps) still
        by false at more =
            ap open_count (changed_further seq f p ps at)
            ∙ ap (λ n. if is_open p.1 then n + 1 else n) (more (further seq f p ps e at is))

-- a number that isn't there changes nothing
pub changed-absent : (seq : ℕ) (f : Entry → Entry) (es : List (ℕ × Entry)) → entry_at seq es ≡ None → changed seq f es ≡ es
changed-absent seq f [] none = refl
changed-absent seq f (p ∷ ps) none = by (nat_eq seq p.0) refl (changed-absent seq f ps)
  where
    by : (b : Bool) → nat_eq seq p.0 ≡ b → (entry_at seq ps ≡ None → changed seq f ps ≡ ps) → changed seq f (p ∷ ps) ≡ p ∷ ps
    by true at more = let no : Some p.1 ≡ None = sym (ap (λ b. cond b (Some p.1) (lookup (nat_eq seq) ps)) at) ∙ none in cc
    by false at more =
        let rest : entry_at seq ps ≡ None = sym (ap (λ b. cond b (Some p.1) (lookup (nat_eq seq) ps)) at) ∙ none in
        changed_further seq f p ps at ∙ ap (λ es. p ∷ es) (more rest)

pub open_count-length : (es : List (ℕ × Entry)) → open_count es ≤ length es
open_count-length [] = omega arith
open_count-length (p ∷ ps) = by (is_open p.1) (open_count-length ps)
  where
    by : (b : Bool) → open_count ps ≤ length ps → (if b then open_count ps + 1 else open_count ps) ≤ length (p ∷ ps)
    by true h = omega arith
    by false h = omega arith

-- the value that a fact is told of
pub told : (P : Entry → Type 0) (o : Option Entry) → IsSomeAnd o P → (e : Entry) × (o ≡ Some e) × P e
told P None h = absurd h
told P (Some e) h = (e, refl, h)

-- an entry that a change doesn't close stays open, or wasn't
pub still : (b c : Bool) → (b && not c) ≡ false → (b ≡ false → c ≡ false) → c ≡ b
still true true stays shut = refl
still true false stays shut = cc
still false true stays shut = shut refl
still false false stays shut = refl
