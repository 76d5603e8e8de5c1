-- In a client's history the dispatch that holds a tag is one of its entries, until the list has ended.
use Rattle.std.proofs.Common.{ℕ, List, [], ◌∷◌, ◌+◌, ◌≡◌, ◌&&◌, ◌||◌, inl, inr, Bool, true, false, not, Option, Some, None, refl, sym, ◌∙◌, ap, arith}
use Rattle.std.specs.Prelude.{if◌then◌else◌, ◌==◌, length}
use Rattle.std.proofs.lemmas.Bool.{and_parts, eq-eqb, false_from_ne_true, ltb-true, le-ltb}
use Rattle.std.proofs.lemmas.Option.{same_Some}
use Rattle.mux_history.specs.declared.name.Name.{Name}
use Rattle.mux_history.specs.declared.record.Record.{Record}
use Rattle.mux_history.specs.Readings.{has_ended, ends, gives_name, dispatches, is_named, is_epoch, is_took, answer_kind, answer_due, book, names_of, with_name, tag_of}
use Rattle.mux_history.specs.Holders.{name_on, of_named}
use Rattle.mux_model.specs.Down.{DownSession}
use Rattle.mux_model.specs.Replay.{is_open_entry, is_next_name, is_down_history}
use Rattle.mux_legal.proofs.Basics.{named, is_its_name}
use Rattle.mux_legal.proofs.ToldDown.{not_both, forgets, IsEmptied}
use Rattle.mux_legal.proofs.KeptAlone.{Move, takes, refuses, replies, rests, starts, move, Own, own_of, own_more, next, holds, freed}
use Rattle.mux_legal.proofs.HeldDue.{Among, IsDue, AreDue, none_held}

module _ (c : DownSession) (past : List Record) (own : Own past) (due : AreDue past) (r : Record) (m : Move c past r r.kind) where
  -- a name that holds a tag isn't given again
  not_given : (t : ℕ) (n : Name) → name_on t past ≡ Some n → gives_name r.kind ≡ true → is_named n r.name ≡ true → ⊥
  not_given t n on g is = by_move m
    where
      later : of_named (is_next_name c past) r.name ≡ true → ⊥
      later given = (let x = next c past own r given in omega (arith, own.tags t n on, x.2, ap (λ (y : Name). y.seq) (same_Some x.0 n (sym x.1 ∙ named n r.name is))))

      by_move : Move c past r r.kind → ⊥
      by_move (takes p _ a k due held given) = later given
      by_move (refuses p _ a held given) = later given
      by_move (replies p x a held k is on) = not_both (gives_name r.kind) x g
      by_move (rests p x a held due) = not_both (gives_name r.kind) x g
      by_move (starts p a none) = absurd (let y : None ≡ Some n = sym (ap (name_on t) none) ∙ on in cc)

  went : is_epoch r.kind ≡ false → has_ended (r ∷ past) ≡ false → has_ended past ≡ false
  went p e = by_tests (ends r.kind) (is_epoch r.kind) p e
    where
      by_tests : (a b : Bool) → b ≡ false → (a || (not b && has_ended past)) ≡ false → has_ended past ≡ false
      by_tests true b p e = absurd (cc)
      by_tests false true p e = absurd (cc)
      by_tests false false p e = e

  -- the entry is open, so no late answer is its
  is_open : has_ended past ≡ false → (t : ℕ) (n : Name) → name_on t past ≡ Some n → is_open_entry past n ≡ true
  is_open going t n on =
      ap (λ b. if b then false else is_named n (name_on (tag_of n past) past)) going
      ∙ is_its_name n (name_on (tag_of n past) past) (ap (λ u. name_on u past) (due going t n on).here ∙ on)

  still_due : has_ended past ≡ false → (t : ℕ) (n : Name) → name_on t past ≡ Some n → name_on t (r ∷ past) ≡ Some n → is_named n r.name ≡ true → answer_kind r.kind (answer_due n past) ≡ answer_due n past
  still_due going t n on now is = by_move m
    where
      by_move : Move c past r r.kind → answer_kind r.kind (answer_due n past) ≡ answer_due n past
      by_move (takes p g a k due held next) = absurd (not_given t n on g is)
      by_move (refuses p g a held next) = absurd (not_given t n on g is)
      by_move (replies p g a held x x_is x_on) =
          let f = freed (r.tag == t) (name_on t past) n (sym (held t (name_on t past)) ∙ now) in
          not_both (r.tag == t) f.0 (eq-eqb r.tag t (own.one_tag n r.tag t (x_on ∙ ap Some (same_Some x n (sym x_is ∙ named n r.name is))) on))
      by_move (rests p g a held due) = due n (named n r.name is) (is_open going t n on) (answer_due n past)
      by_move (starts p a none) = absurd (let y : None ≡ Some n = sym (forgets t r r.kind (name_on t past) p) ∙ now in cc)

  -- one that held its tag before
  keeps : has_ended past ≡ false → (t : ℕ) (n : Name) → is_epoch r.kind ≡ false → name_on t past ≡ Some n → name_on t (r ∷ past) ≡ Some n → IsDue (r ∷ past) t n
  keeps going t n p on now = (let d = due going t n on in record {
    due = by_name (is_epoch r.kind) (is_named n r.name) p (λ is. still_due going t n on now is) ∙ d.due;
    here = by_gift (is_epoch r.kind) (gives_name r.kind && is_named n r.name) p (false_from_ne_true (gives_name r.kind && is_named n r.name) (λ b. not_given t n on (and_parts _ _ b).0 (and_parts _ _ b).1)) ∙ d.here;
    taken = among (is_epoch r.kind) (is_took r.kind) r.name p d.taken;
    begun = d.begun;
    given = (own_more c past own r m).tags t n now;
  })
    where
      by_name : (a b : Bool) → a ≡ false → (b ≡ true → answer_kind r.kind (answer_due n past) ≡ answer_due n past) →
          (if a then false else if b then answer_kind r.kind (answer_due n past) else answer_due n past) ≡ answer_due n past
      by_name true b p h = absurd (cc)
      by_name false true p h = h refl
      by_name false false p h = refl

      by_gift : (a b : Bool) → a ≡ false → b ≡ false → (if a then 0 else if b then r.tag else tag_of n past) ≡ tag_of n past
      by_gift false false p q = refl
      by_gift true b p q = absurd (cc)
      by_gift false true p q = absurd (cc)

      among : (a b : Bool) (o : Option Name) → a ≡ false → Among n (names_of is_took past) → Among n (if a then [] else if b then with_name o (names_of is_took past) else names_of is_took past)
      among true b o p h = absurd (cc)
      among false true None p h = h
      among false true (Some x) p h = inr h
      among false false o p h = h

  -- one that is taken
  begins : (t : ℕ) (n : Name) → is_epoch r.kind ≡ false → gives_name r.kind ≡ true → is_took r.kind ≡ true → ((x : Bool) → answer_kind r.kind x ≡ true) → r.tag ≡ t → r.name ≡ Some n →
      n.seq ≡ dispatches past + 1 → name_on t (r ∷ past) ≡ Some n → IsDue (r ∷ past) t n
  begins t n p g k owed tag is seq now = record {
    due = by_name (is_epoch r.kind) (is_named n r.name) p (is_its_name n r.name is) ∙ owed (answer_due n past);
    here = by_gift (is_epoch r.kind) (gives_name r.kind) (is_named n r.name) p g (is_its_name n r.name is) ∙ tag;
    taken = among (is_epoch r.kind) (is_took r.kind) r.name p k is;
    begun = omega (arith, seq);
    given = (own_more c past own r m).tags t n now;
  }
    where
      by_name : (a b : Bool) → a ≡ false → b ≡ true → (if a then false else if b then answer_kind r.kind (answer_due n past) else answer_due n past) ≡ answer_kind r.kind (answer_due n past)
      by_name false true p q = refl
      by_name true b p q = absurd (cc)
      by_name false false p q = absurd (cc)

      by_gift : (a g b : Bool) → a ≡ false → g ≡ true → b ≡ true → (if a then 0 else if g && b then r.tag else tag_of n past) ≡ r.tag
      by_gift false true true p q s = refl
      by_gift true g b p q s = absurd (cc)
      by_gift false false b p q s = absurd (cc)
      by_gift false true false p q s = absurd (cc)

      among : (a b : Bool) (o : Option Name) → a ≡ false → b ≡ true → o ≡ Some n → Among n (if a then [] else if b then with_name o (names_of is_took past) else names_of is_took past)
      among false true (Some x) p q e = inl (sym (same_Some x n e))
      among false true None p q e = absurd (cc)
      among true b o p q e = absurd (cc)
      among false false o p q e = absurd (cc)

  due_more : AreDue (r ∷ past)
  due_more e t n now = elim (holds c past own r m t n now) [ inl x ↦ keeps (went x.1 e) t n x.1 x.0 now | inr x ↦ begins t n x.0 x.1 x.2 x.3 x.5 x.6 x.7 now ]

due_of : (c : DownSession) (rs : List Record) → is_down_history c rs ≡ true → AreDue rs
due_of c [] h = λ g t n e. absurd (cc)
due_of c (r ∷ old) h = (let a = and_parts _ _ h in due_more c old (own_of c old a.1) (due_of c old a.1) r (move c old r r.kind (and_parts _ _ a.0).0).2)

-- a client's session that holds no dispatch and goes on has no open tag
pub down_emptied : (c : DownSession) → IsEmptied c
down_emptied c rs h going empty t = none_held rs (due_of c rs h) going (le-ltb 0 (length (book rs)) (omega (arith, ltb-true (length (book rs)) 1 empty))) t
