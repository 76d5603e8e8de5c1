-- A client's names: each dispatch taken gets the next one.
use Rattle.std.proofs.Common.{length, ℕ, List, [], ◌∷◌, ◌+◌, ◌≡◌, ◌≤◌, ◌<◌, ◌&&◌, ◌⊎◌, inl, inr, Bool, true, false, Option, Some, None, refl, sym, ◌∙◌, ap, arith, cond}
use Rattle.std.specs.Prelude.{if◌then◌else◌, ◌==◌}
use Rattle.std.proofs.lemmas.Bool.{eq-eqb, and_from, cases_Bool}
use Rattle.mux_frame.specs.Spelling.{MuxFrame}
use Rattle.mux_message.specs.Kinds.{kind_of, is_dispatch}
use Rattle.mux_history.specs.declared.name.Name.{Name}
use Rattle.mux_history.specs.declared.record.Record.{Record}
use Rattle.mux_history.specs.declared.session.SessionId.TheVariants.{Client}
use Rattle.mux_model.specs.Entries.{Exchange}
use Rattle.mux_model.specs.Tags.{name_held, Holder, holder, asked, answered, name_in}
use Rattle.mux_history.specs.Readings.{is_named, gives_name}
use Rattle.mux_model.specs.Legal.{in_record, tally, reply_in, replies, Each, OnDispatch, dispatch_in, taken_count, IsNamedInTurn}
use Rattle.mux_legal.proofs.Basics.{named, given, given_in}
use Rattle.mux_legal.proofs.Sound.{IsSound, sound_asked, sound_answered, asked_other}

-- a record that gives a name gives the client's next one
abbrev pub OwnRecord : ℕ → ℕ → ℕ → Option Record → Type 0
OwnRecord b k count None = Unit {0}
OwnRecord b k count (Some r) = gives_name r.kind ≡ true → r.name ≡ Some (record { boot = b; client = k; seq = count + 1 })

abbrev pub IsOwn : ℕ → ℕ → Exchange → List Exchange → Type 0
IsOwn b k e old = OwnRecord b k (given old) e.rec

-- a record's gift to a name: none, or it gives that very name
pub gift_cases : (b k count : ℕ) (r : Option Record) (n : Name) → OwnRecord b k count r →
    (in_record gives_name n r ≡ 0) ⊎ (in_record gives_name n r ≡ 1) × (n ≡ record { boot = b; client = k; seq = count + 1 }) × (given_in r ≡ 1)
gift_cases b k count None n own = inl refl
gift_cases b k count (Some r) n own = by_test (gives_name r.kind) (is_named n r.name) own (named n r.name)
  where
    abbrev_one : ℕ → ℕ
    abbrev_one x = x

    by_test : (g i : Bool) → (g ≡ true → r.name ≡ Some (record { boot = b; client = k; seq = count + 1 })) → (i ≡ true → r.name ≡ Some n) →
        (cond (g && i) 1 0 ≡ abbrev_one 0) ⊎ (cond (g && i) 1 0 ≡ abbrev_one 1) × (n ≡ record { boot = b; client = k; seq = count + 1 }) × (cond g 1 0 ≡ abbrev_one 1)
    by_test true true own is = inr (refl, (let x : Some n ≡ Some (record { boot = b; client = k; seq = count + 1 }) = sym (is refl) ∙ own refl in cc), refl)
    by_test true false own is = inl refl
    by_test false i own is = inl refl

-- a name past the count wasn't given
pub not_yet : (b k : ℕ) (es : List Exchange) (n : Name) → Each (IsOwn b k) es → given es < n.seq → tally gives_name n es ≡ 0
not_yet b k [] n own lt = refl
not_yet b k (e ∷ old) n own lt =
    elim (gift_cases b k (given old) e.rec n own.0) [
      | inl z ↦ omega (arith, z, not_yet b k old n own.1 (omega arith))
      | inr z ↦ absurd (let s : n.seq ≡ given old + 1 = ap (λ (m : Name). m.seq) z.1 in omega (arith, z.2))
    ]

-- 1 for a name of this client, else 0
abbrev key : ℕ → ℕ → Name → ℕ
key b k n = if b == n.boot && k == n.client then 1 else 0

key_own : (b k s : ℕ) → key b k (record { boot = b; client = k; seq = s }) ≡ 1
key_own b k s = ap (λ t. if t then 1 else 0) (and_from _ _ (eq-eqb b b refl) (eq-eqb k k refl))

-- each name is given once at most, and only to the client that it names
pub given_once : (b k : ℕ) (es : List Exchange) (n : Name) → Each (IsOwn b k) es → tally gives_name n es ≤ key b k n
given_once b k [] n own = omega arith
given_once b k (e ∷ old) n own =
    elim (gift_cases b k (given old) e.rec n own.0) [
      | inl z ↦ omega (arith, z, given_once b k old n own.1)
      | inr z ↦ (
          let s : n.seq ≡ given old + 1 = ap (λ (m : Name). m.seq) z.1 in
          let none : tally gives_name n old ≡ 0 = not_yet b k old n own.1 (omega arith) in
          let one : key b k n ≡ 1 = ap (key b k) z.1 ∙ key_own b k (given old + 1) in
          omega (arith, z.0, none, one))
    ]

-- a dispatch that is taken is recorded under a name that it gives
abbrev pub Asks : Exchange → Type 0
Asks e = OnDispatch e.taken (λ f. (m : Name) × (name_in e.rec ≡ Some m) × (in_record gives_name m e.rec ≡ 1))

-- a record gives a name where a dispatch was taken, and there alone
abbrev pub Tells : Exchange → List Exchange → Type 0
Tells e old = Asks e × (given_in e.rec ≡ dispatch_in e.taken)

given_taken : (es : List Exchange) → Each Tells es → given es ≡ taken_count es
given_taken [] t = refl
given_taken (e ∷ old) t = omega (arith, t.0.1, given_taken old t.1)

pub named_in_turn : (b k : ℕ) (es : List Exchange) → Each (IsOwn b k) es → Each Tells es → Each (IsNamedInTurn b (Client k)) es
named_in_turn b k [] own t = tt
named_in_turn b k (e ∷ old) own t = (of_taken e.taken t.0.0, named_in_turn b k old own.1 t.1)
  where
    of_taken : (taken : Option MuxFrame) → OnDispatch taken (λ f. (m : Name) × (name_in e.rec ≡ Some m) × (in_record gives_name m e.rec ≡ 1)) →
        OnDispatch taken (λ f. name_in e.rec ≡ Some (record { boot = b; client = k; seq = taken_count old + 1 }))
    of_taken None a = tt
    of_taken (Some f) a = λ d. (let x = a d in elim (gift_cases b k (given old) e.rec x.0 own.0) [
      | inl z ↦ absurd (omega (arith, z, x.2))
      | inr z ↦ x.1 ∙ ap (λ (n : Name). Some n) (z.1 ∙ ap (λ s. record { boot = b; client = k; seq = s + 1 }) (given_taken old t.1))
    ])

abbrev pub IsSoundList : ℕ → List Exchange → Type 0
IsSoundList k es = IsSound (λ t. holder (Client k) t es) (λ n. replies (Client k) n es) (λ n. tally gives_name n es)

-- more gifts and the same holders
sound_more : {held : ℕ → Option Holder} {answers gifts : Name → ℕ} → IsSound held answers gifts → (now : ℕ → Option Holder) → ((t : ℕ) → now t ≡ held t) → (more : Name → ℕ) → IsSound now answers (λ n. more n + gifts n)
sound_more {held} {answers} {gifts} s now same more = record {
  owed = λ t h e. (let o = s.owed t h (sym (same t) ∙ e) in (o.0, o.1, omega (arith, o.2)));
  one_tag = λ t u n e g. s.one_tag t u n (ap (λ (x : Option Holder). name_held x) (sym (same t)) ∙ e) (ap (λ (x : Option Holder). name_held x) (sym (same u)) ∙ g);
  paid = λ n. omega (arith, s.paid n);
}

taken_sound : (b k : ℕ) (old : List Exchange) (r : Option Record) (taken : Option MuxFrame) → Each (IsOwn b k) old → OwnRecord b k (given old) r →
    OnDispatch taken (λ f. (m : Name) × (name_in r ≡ Some m) × (in_record gives_name m r ≡ 1)) → IsSoundList k old →
    IsSound (λ t. asked t (record { place = length old; name = name_in r }) taken (holder (Client k) t old)) (λ n. replies (Client k) n old) (λ n. in_record gives_name n r + tally gives_name n old)
taken_sound b k old r None own_old own asks s = sound_more s _ (λ t. refl) (λ n. in_record gives_name n r)
taken_sound b k old r (Some f) own_old own asks s =
    elim (cases_Bool (is_dispatch (kind_of f.kind))) [
      | inl d ↦ (
          let a = asks d in
          elim (gift_cases b k (given old) r a.0 own) [
            | inl z ↦ absurd (omega (arith, z, a.2))
            | inr z ↦ (
                let q : a.0.seq ≡ given old + 1 = ap (λ (m : Name). m.seq) z.1 in
                sound_asked (record { place = length old; name = name_in r }) a.0 f a.1 (not_yet b k old a.0 own_old (omega arith)) s (λ n. in_record gives_name n r) a.2)
          ])
      | inr d ↦ sound_more s _ (λ t. asked_other t _ f (holder (Client k) t old) d) (λ n. in_record gives_name n r)
    ]

sent_sound : {held : ℕ → Option Holder} {answers gifts : Name → ℕ} (sent : Option MuxFrame) → IsSound held answers gifts → IsSound (λ t. answered t sent (held t)) (λ n. reply_in n held sent + answers n) gifts
sent_sound {held} {answers} {gifts} None s = record {
  owed = λ t h e. (let o = s.owed t h e in (o.0, o.1, omega (arith, o.2)));
  one_tag = s.one_tag;
  paid = λ n. omega (arith, s.paid n);
}
sent_sound (Some f) s = sound_answered f s

-- one more entry keeps a client's list sound
pub sound_entry : (b k : ℕ) (e : Exchange) (old : List Exchange) → Each (IsOwn b k) old → IsOwn b k e old → Asks e → IsSoundList k old → IsSoundList k (e ∷ old)
sound_entry b k e old own_old own asks s = sent_sound e.sent (taken_sound b k old e.rec e.taken own_old own asks s)
