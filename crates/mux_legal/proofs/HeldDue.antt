-- While a client's session goes on, who holds a tag was taken on it in this epoch, and is due an answer.
use Rattle.std.proofs.Common.{length, ℕ, List, [], ◌∷◌, ◌+◌, ◌≡◌, ◌≤◌, ◌&&◌, ◌||◌, ◌⊎◌, inl, inr, Bool, true, false, not, Option, Some, None, refl, sym, ◌∙◌, ap, subst, arith}
use Rattle.std.specs.Prelude.{if◌then◌else◌, ◌==◌, nat_lt, filter}
use Rattle.std.proofs.lemmas.Bool.{eqb-true, eq-eqb, ltb-false}
use Rattle.mux_history.specs.declared.name.Name.{Name}
use Rattle.mux_history.specs.declared.record.Record.{Record}
use Rattle.mux_history.specs.declared.kind.RecordKind.{RecordKind}
use Rattle.mux_history.specs.declared.kind.RecordKind.TheVariants.{Took, TookDrained, Epoch}
use Rattle.mux_history.specs.Readings.{is_named, ends, has_ended, gives_name, is_took, counted, dispatches, is_epoch, answer_kind, answer_due, note_due, names_of, with_name, tag_of, book}
use Rattle.mux_history.specs.Holders.{name_on, held_after}
use Rattle.mux_legal.proofs.Basics.{named, is_its_name}

abbrev pub Among : Name → List Name → Type 0
Among n [] = ⊥
Among n (m ∷ ms) = (n ≡ m) ⊎ Among n ms

pub record IsDue (rs : List Record) (t : ℕ) (n : Name) : Type 0 where
  pub due : answer_due n rs ≡ true
  pub here : tag_of n rs ≡ t
  pub taken : Among n (names_of is_took rs)
  pub begun : 1 ≤ n.seq
  pub given : n.seq ≤ dispatches rs

abbrev pub AreDue : List Record → Type 0
AreDue rs = has_ended rs ≡ false → (t : ℕ) (n : Name) → name_on t rs ≡ Some n → IsDue rs t n

same_either : {A : Type 0} (b : Bool) (x : A) → (if b then x else x) ≡ x
same_either true x = refl
same_either false x = refl

counted_same : (k : RecordKind) (before : ℕ) → is_epoch k ≡ false → gives_name k ≡ false → counted k before ≡ before
counted_same (Epoch number standing) before e g = absurd (cc)
counted_same Took before e g = absurd (cc)
counted_same TookDrained before e g = absurd (cc)
counted_same _ before e g = refl

gone_on : (a b c : Bool) → (a || (not b && c)) ≡ false → b ≡ false → c ≡ false
gone_on true b c h e = absurd (cc)
gone_on false true c h e = absurd (cc)
gone_on false false c h e = h

module _ (rs : List Record) (r : Record) (old : AreDue rs) where
  going_before : is_epoch r.kind ≡ false → has_ended (r ∷ rs) ≡ false → has_ended rs ≡ false
  going_before e h = gone_on (ends r.kind) (is_epoch r.kind) (has_ended rs) h e

  -- a record that gives no name, and behind which each that holds a tag held it before, and is due what it was
  module _ (no_epoch : is_epoch r.kind ≡ false) (no_name : gives_name r.kind ≡ false) (no_took : is_took r.kind ≡ false) where
    kept_due : (t : ℕ) (n : Name) → IsDue rs t n → answer_due n (r ∷ rs) ≡ answer_due n rs → IsDue (r ∷ rs) t n
    kept_due t n d same = record {
      due = same ∙ d.due;
      here = (λ i. if no_epoch i then 0 else if no_name i && is_named n r.name then r.tag else tag_of n rs) ∙ d.here;
      taken = subst (Among n) (sym (λ i. if no_epoch i then [] else if no_took i then with_name r.name (names_of is_took rs) else names_of is_took rs)) d.taken;
      begun = d.begun;
      given = omega (arith, d.given, counted_same r.kind (dispatches rs) no_epoch no_name);
    }

    pub due_more : ((t : ℕ) (n : Name) → has_ended rs ≡ false → name_on t (r ∷ rs) ≡ Some n → (name_on t rs ≡ Some n) × (answer_due n (r ∷ rs) ≡ answer_due n rs)) → AreDue (r ∷ rs)
    due_more keeps going t n on =
        let before = going_before no_epoch going in
        let k = keeps t n before on in
        kept_due t n (old before t n k.0) k.1

    other_due : (n : Name) → is_named n r.name ≡ false → answer_due n (r ∷ rs) ≡ answer_due n rs
    other_due n other i = if no_epoch i then false else if other i then answer_kind r.kind (answer_due n rs) else answer_due n rs

    any_due : ((x : Bool) → answer_kind r.kind x ≡ x) → (n : Name) → answer_due n (r ∷ rs) ≡ answer_due n rs
    any_due neutral n =
        (λ i. if no_epoch i then false else if is_named n r.name then neutral (answer_due n rs) i else answer_due n rs) ∙ same_either (is_named n r.name) (answer_due n rs)

    -- a record that says nothing of tags and answers
    pub due_still : ((t : ℕ) (x : Option Name) → held_after t r r.kind x ≡ x) → ((x : Bool) → answer_kind r.kind x ≡ x) → AreDue (r ∷ rs)
    due_still holds neutral = due_more (λ t n going on. (sym (holds t (name_on t rs)) ∙ on, any_due neutral n))

    -- a record that frees its tag, and says nothing of answers
    freed : ((t : ℕ) (x : Option Name) → held_after t r r.kind x ≡ (if r.tag == t then None else x)) → (t : ℕ) (n : Name) → name_on t (r ∷ rs) ≡ Some n → (name_on t rs ≡ Some n) × (r.tag ≡ t → ⊥)
    freed frees t n on = by_test (r.tag == t) (eq-eqb r.tag t) (sym (frees t (name_on t rs)) ∙ on)
      where
        by_test : (b : Bool) → (r.tag ≡ t → b ≡ true) → (if b then None else name_on t rs) ≡ Some n → (name_on t rs ≡ Some n) × (r.tag ≡ t → ⊥)
        by_test true g e = absurd (cc)
        by_test false g e = (e, λ same. (let x : false ≡ true = g same in cc))

    pub due_freed : ((t : ℕ) (x : Option Name) → held_after t r r.kind x ≡ (if r.tag == t then None else x)) → ((x : Bool) → answer_kind r.kind x ≡ x) → AreDue (r ∷ rs)
    due_freed frees neutral = due_more (λ t n going on. ((freed frees t n on).0, any_due neutral n))

    -- an answer to the name that its tag is of
    pub due_answered : ((t : ℕ) (x : Option Name) → held_after t r r.kind x ≡ (if r.tag == t then None else x)) → (m : Name) → r.name ≡ Some m → r.tag ≡ tag_of m rs → AreDue (r ∷ rs)
    due_answered frees m is on_own =
        due_more (λ t n going on. (let f = freed frees t n on in (
          f.0,
          other_due n (no_true (is_named n r.name) (λ same.
              (let eq : Some n ≡ Some m = sym (named n r.name same) ∙ is in let names : n ≡ m = cc in f.1 (on_own ∙ (ap (λ x. tag_of x rs) (sym names) ∙ (old going t n f.0).here))))),
        )))
      where
        no_true : (b : Bool) → (b ≡ true → ⊥) → b ≡ false
        no_true true h = absurd (h refl)
        no_true false h = refl

    -- a late answer: the name holds no tag any more
    pub due_late : ((t : ℕ) (x : Option Name) → held_after t r r.kind x ≡ x) → (m : Name) → r.name ≡ Some m → (has_ended rs ≡ false → is_named m (name_on (tag_of m rs) rs) ≡ false) → AreDue (r ∷ rs)
    due_late holds m is unheld =
        due_more (λ t n going on. (let before : name_on t rs ≡ Some n = sym (holds t (name_on t rs)) ∙ on in (
          before,
          other_due n (no_true (is_named n r.name) (λ same.
              (let eq : Some n ≡ Some m = sym (named n r.name same) ∙ is in
              let names : n ≡ m = cc in
              let at : name_on (tag_of m rs) rs ≡ Some m = ap (λ u. name_on u rs) (ap (λ x. tag_of x rs) (sym names) ∙ (old going t n before).here) ∙ (before ∙ ap (λ x. Some x) names) in
              let no : false ≡ true = sym (unheld going) ∙ is_its_name m (name_on (tag_of m rs) rs) at in
              cc))),
        )))
      where
        no_true : (b : Bool) → (b ≡ true → ⊥) → b ≡ false
        no_true true h = absurd (h refl)
        no_true false h = refl

-- the next name is new
module _ (rs : List Record) (tag reading : ℕ) (m : Name) (next : m.seq ≡ dispatches rs + 1) (old : AreDue rs) where
  other_name : (t : ℕ) (n : Name) → IsDue rs t n → is_named n (Some m) ≡ false
  other_name t n d = by_test (is_named n (Some m)) (named n (Some m))
    where
      by_test : (b : Bool) → (b ≡ true → Some m ≡ Some n) → b ≡ false
      by_test true g = absurd (let e : Some m ≡ Some n = g refl in let same : m ≡ n = cc in omega (arith, ap (λ (x : Name). x.seq) same, next, d.given))
      by_test false g = refl

  abbrev took : Record
  took = record { kind = Took; tag = tag; name = Some m; reading = reading }

  abbrev drained : Record
  drained = record { kind = TookDrained; tag = tag; name = Some m; reading = reading }

  keeps_took : (t : ℕ) (n : Name) → IsDue rs t n → IsDue (took ∷ rs) t n
  keeps_took t n d =
      let other = other_name t n d in
      record {
        due = (λ i. if other i then true else answer_due n rs) ∙ d.due;
        here = (λ i. if other i then tag else tag_of n rs) ∙ d.here;
        taken = inr d.taken;
        begun = d.begun;
        given = omega (arith, d.given);
      }

  itself : is_named m (Some m) ≡ true
  itself = is_its_name m (Some m) refl

  new_took : IsDue (took ∷ rs) tag m
  new_took = record {
    due = λ i. if itself i then true else answer_due m rs;
    here = λ i. if itself i then tag else tag_of m rs;
    taken = inl refl;
    begun = omega (arith, next);
    given = omega (arith, next);
  }

  pub due_took : AreDue (took ∷ rs)
  due_took going t n on = by_test (tag == t) (eqb-true tag t) on
    where
      by_test : (b : Bool) → (b ≡ true → tag ≡ t) → (if b then Some m else name_on t rs) ≡ Some n → IsDue (took ∷ rs) t n
      by_test true g e = (let same : m ≡ n = cc in subst (λ x. IsDue (took ∷ rs) t x) same (subst (λ u. IsDue (took ∷ rs) u m) (g refl) new_took))
      by_test false g e = keeps_took t n (old going t n e)

  pub due_drained : AreDue (drained ∷ rs)
  due_drained going t n on =
      let d = old going t n on in
      let other = other_name t n d in
      record {
        due = (λ i. if other i then answer_due n rs else answer_due n rs) ∙ d.due;
        here = (λ i. if other i then tag else tag_of n rs) ∙ d.here;
        taken = d.taken;
        begun = d.begun;
        given = omega (arith, d.given);
      }

-- nothing holds a tag at the beginning of an epoch
pub due_epoch : (rs : List Record) (r : Record) → ((t : ℕ) → name_on t (r ∷ rs) ≡ None) → AreDue (r ∷ rs)
due_epoch rs r none going t n on = absurd (let e : None ≡ Some n = sym (none t) ∙ on in cc)

-- where the book is empty, and where no name was given, no tag is held
among_filter : (p : Name → Bool) (n : Name) (ns : List Name) → Among n ns → p n ≡ true → nat_lt 0 (length (filter p ns)) ≡ false → ⊥
among_filter p n [] a h e = a
among_filter p n (m ∷ ms) (inl same) h e = by_test (p m) (sym (ap p same) ∙ h) e
  where
    by_test : (b : Bool) → b ≡ true → nat_lt 0 (length (if b then m ∷ filter p ms else filter p ms)) ≡ false → ⊥
    by_test true g x = omega (arith, ltb-false 0 (length (m ∷ filter p ms)) x)
    by_test false g x = absurd (cc)
among_filter p n (m ∷ ms) (inr a) h e = by_test (p m) (λ x. among_filter p n ms a h x) e
  where
    by_test : (b : Bool) → (nat_lt 0 (length (filter p ms)) ≡ false → ⊥) → nat_lt 0 (length (if b then m ∷ filter p ms else filter p ms)) ≡ false → ⊥
    by_test true g x = omega (arith, ltb-false 0 (length (m ∷ filter p ms)) x)
    by_test false g x = g x

or_right : (a b : Bool) → b ≡ true → (a || b) ≡ true
or_right true b e = refl
or_right false b e = e

pub none_held : (rs : List Record) → AreDue rs → has_ended rs ≡ false → nat_lt 0 (length (book rs)) ≡ false → (t : ℕ) → name_on t rs ≡ None
none_held rs old going empty t = by_holder (name_on t rs) refl
  where
    by_holder : (o : Option Name) → name_on t rs ≡ o → o ≡ None
    by_holder None e = refl
    by_holder (Some n) e =
        absurd (let d = old going t n e in among_filter (λ m. note_due m rs || answer_due m rs) n (names_of is_took rs) d.taken (or_right (note_due n rs) (answer_due n rs) d.due) empty)

pub none_fresh : (rs : List Record) → AreDue rs → has_ended rs ≡ false → dispatches rs ≡ 0 → (t : ℕ) → name_on t rs ≡ None
none_fresh rs old going zero t = by_holder (name_on t rs) refl
  where
    by_holder : (o : Option Name) → name_on t rs ≡ o → o ≡ None
    by_holder None e = refl
    by_holder (Some n) e = absurd (let d = old going t n e in omega (arith, d.begun, d.given, zero))
