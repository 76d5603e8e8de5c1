-- A tag that comes free.
use Rattle.std.proofs.Common.{◌≡◌, ℕ, ◌+◌, ◌==◌, ◌&&◌, Bool, true, false, not, cond, nat_eq, if◌then◌else◌, List, [], ◌∷◌, Some, None, IsSome, refl, sym, ap, subst, ◌∙◌, arith}
use Rattle.std.proofs.lemmas.Bool.{eqb-true, eq-eqb}
use Rattle.std.specs.Bool.{then_some}
use Rattle.translate_book.specs.declared.entry.Change.{Change}
use Rattle.translate_book.specs.declared.entry.Entry.{Entry}
use Rattle.translate_book.specs.Entries.{is_open, applied, freed}
use Rattle.translate_book.specs.Book.{entry_at, open_at, open_count, IsOnce, changed}
use Rattle.translate_book.proofs.Changed.{own, further, changed_here, changed_further}
use Rattle.translate_book.proofs.Closing.{open_at-kept, open_count-kept}
use Rattle.translate_book.proofs.Lists.{open_at-open, open_at-shut, open_count-open, open_count-shut}

-- where an open entry is open no more, its tag alone isn't in use any more
module _ (seq : ℕ) (f : Entry → Entry) (e : Entry) (was : is_open e ≡ true) (shut : is_open (f e) ≡ false) where
  -- an open entry is found by its tag
  pub open_at-own : (es : List (ℕ × Entry)) → entry_at seq es ≡ Some e → IsSome (open_at e.tag es)
  open_at-own [] is = cc
  open_at-own (p ∷ ps) is = by (nat_eq seq p.0) refl (open_at-own ps)
    where
      later : (b : Bool) → IsSome (open_at e.tag ps) → IsSome (if b then Some p.0 else open_at e.tag ps)
      later true h = refl
      later false h = h

      by : (b : Bool) → nat_eq seq p.0 ≡ b → (entry_at seq ps ≡ Some e → IsSome (open_at e.tag ps)) → IsSome (open_at e.tag (p ∷ ps))
      by true at more =
          let mine : p.1 ≡ e = own seq f p ps e at is in
          let test : (is_open p.1 && p.1.tag == e.tag) ≡ true = ap (λ (x : Entry). is_open x && x.tag == e.tag) mine ∙ ap (λ b. b && e.tag == e.tag) was ∙ eq-eqb e.tag e.tag refl in
          subst (λ b. IsSome (if b then Some p.0 else open_at e.tag ps)) (sym test) refl
      by false at more = later (is_open p.1 && p.1.tag == e.tag) (more (further seq f p ps e at is))

  both : (a b : Bool) → (a && b) ≡ true → (a ≡ true) × (b ≡ true)
  both true b h = (refl, h)
  both false b h = cc

  taken : (p : ℕ × Entry) (ps : List (ℕ × Entry)) (t : ℕ) → IsOnce (p ∷ ps) → entry_at seq ps ≡ Some e → (is_open p.1 && p.1.tag == t) ≡ true → nat_eq e.tag t ≡ true → ⊥
  taken p ps t once is mine own_tag =
      let m = both (is_open p.1) (p.1.tag == t) mine in
      let same : p.1.tag ≡ e.tag = eqb-true p.1.tag t m.1 ∙ sym (eqb-true e.tag t own_tag) in
      let none : open_at e.tag ps ≡ None = ap (λ n. open_at n ps) (sym same) ∙ once.0 m.0 in
      let no = subst IsSome none (open_at-own ps is) in
      cc

  pub open_at-freed : (t : ℕ) (es : List (ℕ × Entry)) → IsOnce es → entry_at seq es ≡ Some e → open_at t (changed seq f es) ≡ cond (nat_eq e.tag t) None (open_at t es)
  open_at-freed t [] once is = cc
  open_at-freed t (p ∷ ps) once is = by (nat_eq seq p.0) refl (open_at-freed t ps once.1)
    where
      here : (b : Bool) → (b ≡ true → open_at t ps ≡ None) → open_at t ps ≡ cond b None (cond b (Some p.0) (open_at t ps))
      here true none = none refl
      here false none = refl

      there : (a b : Bool) → (never : a ≡ true → b ≡ true → ⊥) → (if a then Some p.0 else cond b None (open_at t ps)) ≡ cond b None (if a then Some p.0 else open_at t ps)
      there true true never = absurd (never refl refl)
      there true false never = refl
      there false b never = refl

      by : (b : Bool) → nat_eq seq p.0 ≡ b → (entry_at seq ps ≡ Some e → open_at t (changed seq f ps) ≡ cond (nat_eq e.tag t) None (open_at t ps)) → open_at t (changed seq f (p ∷ ps)) ≡ cond (nat_eq e.tag t) None (open_at t (p ∷ ps))
      by true at more =
          let mine : p.1 ≡ e = own seq f p ps e at is in
          ap (open_at t) (changed_here seq f p ps at) ∙ open_at-kept t (p.0, f p.1) ps
          ∙ open_at-shut (p.0, f p.1) ps t (ap (λ x. is_open (f x)) mine ∙ shut)
          ∙ here (nat_eq e.tag t) (λ b. ap (λ n. open_at n ps) (sym (eqb-true e.tag t b) ∙ sym (ap (λ (x : Entry). x.tag) mine)) ∙ once.0 (ap is_open mine ∙ was))
          ∙ sym (ap (cond (nat_eq e.tag t) None) (open_at-open p ps t (ap is_open mine ∙ was) ∙ ap (λ (x : Entry). cond (nat_eq x.tag t) (Some p.0) (open_at t ps)) mine))
      by false at more =
          ap (open_at t) (changed_further seq f p ps at)
          ∙ ap (λ o. if is_open p.1 && p.1.tag == t then Some p.0 else o) (more (further seq f p ps e at is))
          ∙ there (is_open p.1 && p.1.tag == t) (nat_eq e.tag t) (taken p ps t once (further seq f p ps e at is))

  pub open_count-freed : (es : List (ℕ × Entry)) → entry_at seq es ≡ Some e → open_count es ≡ open_count (changed seq f es) + 1
  open_count-freed [] is = cc
  open_count-freed (p ∷ ps) is = by (nat_eq seq p.0) refl (open_count-freed ps)
    where
      later : (b : Bool) (m n : ℕ) → m ≡ n + 1 → (if b then m + 1 else m) ≡ (if b then n + 1 else n) + 1
      later true m n h = omega (arith, h)
      later false m n h = h

      by : (b : Bool) → nat_eq seq p.0 ≡ b → (entry_at seq ps ≡ Some e → open_count ps ≡ open_count (changed seq f ps) + 1) → open_count (p ∷ ps) ≡ open_count (changed seq f (p ∷ ps)) + 1
      by true at more =
          let mine : p.1 ≡ e = own seq f p ps e at is in
          let here : open_count (changed seq f (p ∷ ps)) ≡ open_count ps = ap open_count (changed_here seq f p ps at) ∙ open_count-kept (p.0, f p.1) ps ∙ open_count-shut (p.0, f p.1) ps (ap (λ x. is_open (f x)) mine ∙ shut) in
          open_count-open p ps (ap is_open mine ∙ was) ∙ ap (λ n. n + 1) (sym here)
      by false at more =
          later (is_open p.1) (open_count ps) (open_count (changed seq f ps)) (more (further seq f p ps e at is))
          ∙ ap (λ n. n + 1) (sym (ap open_count (changed_further seq f p ps at)))

-- what a change that frees a tag says of the entry
pub record Freed (c : Change) (e : Entry) (t : ℕ) : Type 0 where
  pub was : is_open e ≡ true
  pub shut : is_open (applied c e) ≡ false
  pub tag : t ≡ e.tag

pub frees : (c : Change) (e : Entry) {t : ℕ} → freed c e ≡ Some t → Freed c e t
frees c e {t} is = by (is_open e) (is_open (applied c e)) refl refl
  where
    by : (b d : Bool) → is_open e ≡ b → is_open (applied c e) ≡ d → Freed c e t
    by true false was shut = let same : Some e.tag ≡ Some t = sym (ap (λ b. then_some b e.tag) (ap (λ b. b && not (is_open (applied c e))) was ∙ ap not shut)) ∙ is in record { was = was; shut = shut; tag = cc }
    by true true was shut = let no : None ≡ Some t = sym (ap (λ b. then_some b e.tag) (ap (λ b. b && not (is_open (applied c e))) was ∙ ap not shut)) ∙ is in cc
    by false d was shut = let no : None ≡ Some t = sym (ap (λ b. then_some b e.tag) (ap (λ b. b && not (is_open (applied c e))) was)) ∙ is in cc

pub frees_none : (c : Change) (e : Entry) → freed c e ≡ None → (is_open e && not (is_open (applied c e))) ≡ false
frees_none c e is = by (is_open e && not (is_open (applied c e))) is
  where
    by : (b : Bool) → then_some b e.tag ≡ None → b ≡ false
    by true h = cc
    by false h = refl
