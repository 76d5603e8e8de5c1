-- Who holds a tag by the records is who holds it by the messages.
use Rattle.std.proofs.Common.{length, ℕ, List, ◌∷◌, ◌≡◌, ◌&&◌, inl, inr, Bool, true, false, Option, Some, None, refl, sym, ◌∙◌, ap, subst, max}
use Rattle.std.specs.Prelude.{if◌then◌else◌, ◌==◌, is_some}
use Rattle.mux_frame.specs.Spelling.{MuxFrame}
use Rattle.mux_message.specs.Kinds.{kind_of, is_dispatch, is_final}
use Rattle.mux_history.specs.declared.name.Name.{Name}
use Rattle.mux_history.specs.declared.record.Record.{Record}
use Rattle.mux_history.specs.declared.session.SessionId.{SessionId}
use Rattle.mux_history.specs.declared.session.SessionId.TheVariants.{Client, Server}
use Rattle.mux_history.specs.Holders.{name_on, held_after}
use Rattle.mux_model.specs.Entries.{Exchange}
use Rattle.mux_model.specs.Tags.{name_held, Holder, holder, asked, answered}
use Rattle.mux_model.specs.Steps.{Step, entries, records, with_record, entry_of}
use Rattle.mux_model.specs.Runs.{IsLinked}
use Rattle.mux_legal.proofs.Sound.{answered_cases}
use Rattle.mux_model.specs.Legal.{OnDispatch}
use Rattle.mux_history.specs.declared.kind.RecordKind.{RecordKind}
use Rattle.mux_history.specs.Readings.{reading}

-- one more entry with its record does
abbrev pub Links : SessionId → List Step → Exchange → Type 0
Links id past e = (t : ℕ) → name_on t (with_record e.rec (records past)) ≡ name_held (holder id t (e ∷ entries past))

-- a message to the client that ends no use of a tag changes no holder
pub answered_free : (g : MuxFrame) (held : ℕ → Option Holder) → (is_final (kind_of g.kind) ≡ true → held g.tag ≡ None) → (t : ℕ) → answered t (Some g) (held t) ≡ held t
answered_free g held free t =
    elim (answered_cases t g (held t)) [
      | inl a ↦ a.0 ∙ (sym (free a.1) ∙ ap held a.2)
      | inr a ↦ a.0
    ]

-- a final reply frees its tag
pub answered_frees : (g : MuxFrame) (before : Option Holder) (t : ℕ) → is_final (kind_of g.kind) ≡ true → name_held (answered t (Some g) before) ≡ (if g.tag == t then None else name_held before)
answered_frees g before t final = by_test (is_final (kind_of g.kind)) (g.tag == t) final
  where
    by_test : (a b : Bool) → a ≡ true → name_held (if a && b then None else before) ≡ (if b then None else name_held before)
    by_test true true e = refl
    by_test true false e = refl
    by_test false b e = absurd (cc)

-- a dispatch takes its tag
pub asked_takes : (who : Holder) (f : MuxFrame) (before : Option Holder) (t : ℕ) → is_dispatch (kind_of f.kind) ≡ true → name_held (asked t who (Some f) before) ≡ (if f.tag == t then who.name else name_held before)
asked_takes who f before t d = by_test (is_dispatch (kind_of f.kind)) (f.tag == t) d
  where
    by_test : (a b : Bool) → a ≡ true → name_held (if a && b then Some who else before) ≡ (if b then who.name else name_held before)
    by_test true true e = refl
    by_test true false e = refl
    by_test false b e = absurd (cc)

-- a dispatch that holds a tag has a name
abbrev pub IsNamed : Option Holder → Type 0
IsNamed None = Unit {0}
IsNamed (Some h) = (n : Name) × (h.name ≡ Some n)

-- who has a name holds no tag where no name does
pub no_holder : (o : Option Holder) → IsNamed o → name_held o ≡ None → o ≡ None
no_holder None p e = refl
no_holder (Some h) p e = absurd (let x : None ≡ Some p.0 = sym e ∙ p.1 in cc)

pub open_none : (o : Option Holder) → is_some o ≡ false → o ≡ None
open_none None e = refl
open_none (Some h) e = absurd (cc)

pub is_named_some : (o : Option Holder) (h : Holder) → o ≡ Some h → IsNamed o → (n : Name) × (h.name ≡ Some n)
is_named_some o h e p = subst IsNamed e p

-- every holder has a name, where every dispatch has one
pub named_asked : (t : ℕ) (who : Holder) (m : Option MuxFrame) (before : Option Holder) → OnDispatch m (λ f. (n : Name) × (who.name ≡ Some n)) → IsNamed before → IsNamed (asked t who m before)
named_asked t who None before d p = p
named_asked t who (Some f) before d p = by_test (is_dispatch (kind_of f.kind)) (f.tag == t) d
  where
    by_test : (a b : Bool) → (a ≡ true → (n : Name) × (who.name ≡ Some n)) → IsNamed (if a && b then Some who else before)
    by_test true true d = d refl
    by_test true false d = p
    by_test false b d = p

pub named_answered : (t : ℕ) (m : Option MuxFrame) (before : Option Holder) → IsNamed before → IsNamed (answered t m before)
named_answered t None before p = p
named_answered t (Some f) before p = by_test (is_final (kind_of f.kind) && f.tag == t)
  where
    by_test : (b : Bool) → IsNamed (if b then None else before)
    by_test true = tt
    by_test false = p

none_changes : (id : SessionId) (r : Option Record) (past : List Exchange) (t : ℕ) → holder id t (record { rec = r; taken = None; sent = None } ∷ past) ≡ holder id t past
none_changes (Client k) r past t = refl
none_changes (Server k) r past t = refl

-- the record of a step
abbrev pub rec_of : List Step → (now : ℕ) → RecordKind → (tag : ℕ) → Option Name → Record
rec_of past now kind tag name = record { kind = kind; tag = tag; name = name; reading = max (reading (records past)) now }

-- an entry that changes no holder, and whose record says so
module _ (id : SessionId) (past : List Step) (linked : IsLinked id past) (now : ℕ) (kind : RecordKind) (tag : ℕ) (name : Option Name) where
  pub still : (taken sent : Option MuxFrame) → ((t : ℕ) (x : Option Name) → held_after t (rec_of past now kind tag name) kind x ≡ x) →
      ((t : ℕ) → holder id t (entry_of (records past) now kind tag name taken sent ∷ entries past) ≡ holder id t (entries past)) →
      Links id past (entry_of (records past) now kind tag name taken sent)
  still taken sent neutral same = λ t. neutral t (name_on t (records past)) ∙ (linked t ∙ sym (ap (λ (x : Option Holder). name_held x) (same t)))

  -- nothing is taken or sent
  pub silent : ((t : ℕ) (x : Option Name) → held_after t (rec_of past now kind tag name) kind x ≡ x) → Links id past (entry_of (records past) now kind tag name None None)
  silent neutral = still None None neutral (none_changes id (Some (rec_of past now kind tag name)) (entries past))

-- a client's entry that ends a use
module _ (k : ℕ) (past : List Step) (linked : IsLinked (Client k) past) where
  -- a reply on the record's tag
  pub frees_down : (r : Record) (g : MuxFrame) (taken : Option MuxFrame) → ((t : ℕ) (x : Option Name) → held_after t r r.kind x ≡ (if r.tag == t then None else x)) →
      ((t : ℕ) → asked t (record { place = length (entries past); name = r.name }) taken (holder (Client k) t (entries past)) ≡ holder (Client k) t (entries past)) →
      g.tag ≡ r.tag → is_final (kind_of g.kind) ≡ true →
      Links (Client k) past (record { rec = Some r; taken = taken; sent = Some g })
  frees_down r g taken frees same on_tag final = λ t.
      frees t (name_on t (records past))
      ∙ (ap (λ x. if r.tag == t then None else x) (linked t ∙ sym (ap (λ (x : Option Holder). name_held x) (same t)))
      ∙ (ap (λ u. if u == t then None else name_held (asked t (record { place = length (entries past); name = r.name }) taken (holder (Client k) t (entries past)))) (sym on_tag)
      ∙ sym (answered_frees g (asked t (record { place = length (entries past); name = r.name }) taken (holder (Client k) t (entries past))) t final)))
