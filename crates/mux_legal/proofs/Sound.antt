-- A client's list by itself: each name is given once, and answered once.
use Rattle.std.proofs.Common.{subst, ℕ, ◌+◌, ◌≡◌, ◌≤◌, ◌&&◌, ◌⊎◌, inl, inr, Bool, true, false, Option, Some, None, refl, sym, ◌∙◌, ap, arith}
use Rattle.std.specs.Prelude.{if◌then◌else◌, ◌==◌}
use Rattle.std.proofs.lemmas.Bool.{eqb-true, eq-eqb}
use Rattle.mux_frame.specs.Spelling.{MuxFrame}
use Rattle.mux_message.specs.Kinds.{kind_of, is_dispatch, is_final}
use Rattle.mux_history.specs.declared.name.Name.{Name}
use Rattle.mux_model.specs.Tags.{name_held, Holder, asked, answered}
use Rattle.mux_history.specs.Readings.{is_named}
use Rattle.mux_model.specs.Legal.{reply_in, is_reply_to}
use Rattle.mux_legal.proofs.Basics.{named, one_if}

-- who holds the tags, how often a name was answered, and how often it was given
pub record IsSound (held : ℕ → Option Holder) (answers : Name → ℕ) (gifts : Name → ℕ) : Type 0 where
  pub owed : (t : ℕ) (h : Holder) → held t ≡ Some h → (n : Name) × (h.name ≡ Some n) × (answers n + 1 ≤ gifts n)
  pub one_tag : (t u : ℕ) (n : Name) → name_held (held t) ≡ Some n → name_held (held u) ≡ Some n → t ≡ u
  pub paid : (n : Name) → answers n ≤ gifts n

pub name_some : (o : Option Holder) (n : Name) → name_held o ≡ Some n → (h : Holder) × (o ≡ Some h) × (h.name ≡ Some n)
name_some None n e = absurd (cc)
name_some (Some h) n e = (h, refl, e)

-- a name that holds a tag was given
held_given : {held : ℕ → Option Holder} {answers gifts : Name → ℕ} → IsSound held answers gifts → (t : ℕ) (n : Name) → name_held (held t) ≡ Some n → answers n + 1 ≤ gifts n
held_given {held} {answers} {gifts} s t n e =
    let a = name_some (held t) n e in
    let b = s.owed t a.0 a.1 in
    let same : Some b.0 ≡ Some n = sym b.1 ∙ a.2 in
    let eq : b.0 ≡ n = cc in
    subst (λ m. answers m + 1 ≤ gifts m) eq b.2

-- a fact of each side of a choice of holders
pub asked_cases : (t : ℕ) (who : Holder) (f : MuxFrame) (before : Option Holder) → (asked t who (Some f) before ≡ Some who) × (f.tag ≡ t) ⊎ (asked t who (Some f) before ≡ before)
asked_cases t who f before = by_test (is_dispatch (kind_of f.kind)) (f.tag == t) (λ e. eqb-true f.tag t e)
  where
    by_test : (a b : Bool) → (b ≡ true → f.tag ≡ t) → ((if a && b then Some who else before) ≡ Some who) × (f.tag ≡ t) ⊎ ((if a && b then Some who else before) ≡ before)
    by_test true true g = inl (refl, g refl)
    by_test true false g = inr refl
    by_test false b g = inr refl

-- the name that is new holds no tag
new_holds_none : {held : ℕ → Option Holder} {answers gifts : Name → ℕ} → IsSound held answers gifts → (who : Holder) (m n : Name) → who.name ≡ Some m → gifts m ≡ 0 →
    (o : Option Holder) → o ≡ Some who → name_held o ≡ Some n → (u : ℕ) → name_held (held u) ≡ Some n → ⊥
new_holds_none {held} {answers} {gifts} s who m n is_m fresh o is_who on_o u on_u =
    let chain : Some n ≡ Some m = sym on_o ∙ (ap (λ (x : Option Holder). name_held x) is_who ∙ is_m) in
    let eq : n ≡ m = cc in
    let none : gifts n ≡ 0 = ap gifts eq ∙ fresh in
    let some : answers n + 1 ≤ gifts n = held_given s u n on_u in
    omega arith

-- a dispatch that is taken under a name that wasn't given yet
pub sound_asked : {held : ℕ → Option Holder} {answers gifts : Name → ℕ} (who : Holder) (m : Name) (f : MuxFrame) → who.name ≡ Some m → gifts m ≡ 0 →
    IsSound held answers gifts → (more : Name → ℕ) → (more m ≡ 1) →
    IsSound (λ t. asked t who (Some f) (held t)) answers (λ n. more n + gifts n)
sound_asked {held} {answers} {gifts} who m f is_m fresh s more one = record {
  owed = λ t h e. elim (asked_cases t who f (held t)) [
    | inl a ↦ (m, (ap (λ (x : Option Holder). name_held x) (sym e ∙ a.0)) ∙ is_m, (omega (arith, s.paid m, one, fresh)))
    | inr a ↦ (let o = s.owed t h (sym a ∙ e) in (o.0, o.1, omega (arith, o.2)))
  ];
  one_tag = λ t u n e g. elim (asked_cases t who f (held t)) [
    | inl a ↦ elim (asked_cases u who f (held u)) [
      | inl b ↦ sym a.1 ∙ b.1
      | inr b ↦ absurd (new_holds_none s who m n is_m fresh _ a.0 e u (ap (λ (x : Option Holder). name_held x) (sym b) ∙ g))
    ]
    | inr a ↦ elim (asked_cases u who f (held u)) [
      | inl b ↦ absurd (new_holds_none s who m n is_m fresh _ b.0 g t (ap (λ (x : Option Holder). name_held x) (sym a) ∙ e))
      | inr b ↦ s.one_tag t u n (ap (λ (x : Option Holder). name_held x) (sym a) ∙ e) (ap (λ (x : Option Holder). name_held x) (sym b) ∙ g)
    ]
  ];
  paid = λ n. omega (arith, s.paid n);
}

pub answered_cases : (t : ℕ) (f : MuxFrame) (before : Option Holder) →
    (answered t (Some f) before ≡ None) × (is_final (kind_of f.kind) ≡ true) × (f.tag ≡ t)
    ⊎ (answered t (Some f) before ≡ before) × (is_final (kind_of f.kind) ≡ true → f.tag ≡ t → ⊥)
answered_cases t f before = by_test (is_final (kind_of f.kind)) (f.tag == t) (eqb-true f.tag t) (eq-eqb f.tag t)
  where
    by_test : (a b : Bool) → (b ≡ true → f.tag ≡ t) → (f.tag ≡ t → b ≡ true) →
        ((if a && b then None else before) ≡ None) × (a ≡ true) × (f.tag ≡ t)
        ⊎ ((if a && b then None else before) ≡ before) × (a ≡ true → f.tag ≡ t → ⊥)
    by_test true true g h = inl (refl, refl, g refl)
    by_test true false g h = inr (refl, λ _ e. absurd (let x : false ≡ true = h e in cc))
    by_test false b g h = inr (refl, λ x _. absurd (cc))

-- what a reply counts for a name: 1 where its tag is held by the name
reply_counts : (n : Name) (held : ℕ → Option Holder) (f : MuxFrame) →
    (reply_in n held (Some f) ≡ 0)
    ⊎ (reply_in n held (Some f) ≡ 1) × (is_final (kind_of f.kind) ≡ true) × (name_held (held f.tag) ≡ Some n)
reply_counts n held f = by_test (is_final (kind_of f.kind)) (held f.tag)
  where
    by_name : (h : Holder) (b : Bool) → (b ≡ true → h.name ≡ Some n) →
        (one_if b ≡ 0) ⊎ (one_if b ≡ 1) × (true ≡ true) × (h.name ≡ Some n)
    by_name h true g = inr (refl, refl, g refl)
    by_name h false g = inl refl

    by_test : (a : Bool) (o : Option Holder) →
        (one_if (a && is_reply_to n o) ≡ 0) ⊎ (one_if (a && is_reply_to n o) ≡ 1) × (a ≡ true) × (name_held o ≡ Some n)
    by_test false o = inl refl
    by_test true None = inl refl
    by_test true (Some h) = by_name h (is_named n h.name) (named n h.name)

-- any message that is sent keeps the list sound: a final reply frees the tag of the name that it answers
pub sound_answered : {held : ℕ → Option Holder} {answers gifts : Name → ℕ} (f : MuxFrame) →
    IsSound held answers gifts → IsSound (λ t. answered t (Some f) (held t)) (λ n. reply_in n held (Some f) + answers n) gifts
sound_answered {held} {answers} {gifts} f s = record {
  owed = λ t h e. elim (answered_cases t f (held t)) [
    | inl a ↦ absurd (let x : None ≡ Some h = sym a.0 ∙ e in cc)
    | inr a ↦ (let o = s.owed t h (sym a.0 ∙ e) in (
      o.0,
      o.1,
      elim (reply_counts o.0 held f) [
        | inl z ↦ omega (arith, o.2)
        | inr z ↦ absurd (a.1 z.1 (s.one_tag f.tag t o.0 z.2 (ap (λ (x : Option Holder). name_held x) (sym a.0 ∙ e) ∙ o.1)))
      ],
    ))
  ];
  one_tag = λ t u n e g. s.one_tag t u n (still t n e) (still u n g);
  paid = λ n. elim (reply_counts n held f) [
    | inl z ↦ omega (arith, s.paid n)
    | inr z ↦ omega (arith, held_given s f.tag n z.2)
  ];
}
  where
    still : (t : ℕ) (n : Name) → name_held (answered t (Some f) (held t)) ≡ Some n → name_held (held t) ≡ Some n
    still t n e = elim (answered_cases t f (held t)) [
      | inl a ↦ absurd (let x : None ≡ Some n = sym (ap (λ (x : Option Holder). name_held x) a.0) ∙ e in cc)
      | inr a ↦ ap (λ (x : Option Holder). name_held x) (sym a.0) ∙ e
    ]

-- a message that is no dispatch changes no holder
pub asked_other : (t : ℕ) (who : Holder) (f : MuxFrame) (before : Option Holder) → is_dispatch (kind_of f.kind) ≡ false → asked t who (Some f) before ≡ before
asked_other t who f before e = ap (λ b. if b && f.tag == t then Some who else before) e
