-- What a session keeps shows none of the causes that one history could show.
use Rattle.std.proofs.Common.{ℕ, List, [], ◌∷◌, ◌+◌, ◌≡◌, ◌≤◌, ◌&&◌, ◌||◌, ◌⊎◌, inl, inr, Bool, true, false, not, Option, Some, None, refl, sym, ◌∙◌, ap, arith}
use Rattle.std.specs.Prelude.{if◌then◌else◌, ◌==◌, is_some, is_none}
use Rattle.std.proofs.lemmas.Bool.{and_parts, eqb-true, eq-eqb, or_cases, false_from_ne_true}
use Rattle.std.proofs.lemmas.Option.{same_Some}
use Rattle.mux_history.specs.Lapse.{has_lapsed, lease_of}
use Rattle.mux_history.specs.declared.name.Name.{Name}
use Rattle.mux_history.specs.declared.record.Record.{Record}
use Rattle.mux_history.specs.declared.kind.RecordKind.{RecordKind}
use Rattle.mux_history.specs.declared.kind.RecordKind.TheVariants.{Took, TookDrained, Discarded, Ponged, InitDone, Echoed, OutOfPlace, Unsupported, DrainAcked, Ignored, Noted, Passed, Retried, Nacked, Unrouted, Failed, Late, DrainAsked, Closed, Lost, Recalled, Offered, Settled, SettledNack, Dropped, PingDone, Leased, Drained, InitAsked, Discarding, Clock, Retired, PingSent, LostOne, Epoch, Rolled}
use Rattle.mux_history.specs.declared.kind.Standing.TheVariants.{Down, Up}
use Rattle.mux_history.specs.declared.session.SessionId.TheVariants.{Client, Server}
use Rattle.mux_history.specs.Readings.{gives_name, dispatches, counted, is_named, is_epoch, is_took, answer_kind, answer_due, note_due, stands, begins, is_drained_kind, is_offered}
use Rattle.mux_history.specs.Holders.{name_on, held_after, of_named, holds_own}
use Rattle.mux_agree.specs.Agree.{has, answers, frees, is_answered_twice}
use Rattle.mux_model.specs.Down.{DownSession}
use Rattle.mux_model.specs.Up.{UpSession}
use Rattle.mux_model.specs.Replay.{is_answered_by, is_open_entry, is_next_name, on_own_tag, may_follow, may_follow_up, is_down_history, is_up_history}
use Rattle.mux_legal.specs.KeptHistories.{AreFaultlessAlone, KeptHistoriesAreFaultless}
use Rattle.mux_legal.proofs.Basics.{named, is_its_name, not_true}
use Rattle.mux_legal.proofs.KeptSendings.{none_before}
use Rattle.mux_legal.proofs.ToldDown.{of_some, not_both, answered, forgets, counts_on}

-- a dispatch on an open tag, or the end of one on a tag that its name doesn't hold
abbrev misuses_tag : List Record → Record → RecordKind → Bool
misuses_tag past r k = (begins k && is_some (name_on r.tag past)) || (frees k && not (holds_own past r))

free_tag : (o : Option Name) → is_none o ≡ true → (is_some o || false) ≡ false
free_tag None e = refl
free_tag (Some n) e = absurd (cc)

own_tag_of : (past : List Record) (r : Record) (n : Name) → r.name ≡ Some n → name_on r.tag past ≡ Some n → not (holds_own past r) ≡ false
own_tag_of past r n is on = ap (λ o. not (of_named (λ m. is_named m (name_on r.tag past)) o)) is ∙ ap not (is_its_name n (name_on r.tag past) on)

-- what a record of a client's session does to names and tags
pub data Move (c : DownSession) (past : List Record) (r : Record) (k : RecordKind) : Type 0 where
  takes : is_epoch k ≡ false → gives_name k ≡ true → answers k ≡ false → is_took k ≡ true → ((x : Bool) → answer_kind k x ≡ true) →
      ((t : ℕ) (x : Option Name) → held_after t r k x ≡ (if r.tag == t then r.name else x)) → of_named (is_next_name c past) r.name ≡ true → Move c past r k
  refuses : is_epoch k ≡ false → gives_name k ≡ true → answers k ≡ true → ((t : ℕ) (x : Option Name) → held_after t r k x ≡ x) → of_named (is_next_name c past) r.name ≡ true → Move c past r k
  replies : is_epoch k ≡ false → gives_name k ≡ false → answers k ≡ true → ((t : ℕ) (x : Option Name) → held_after t r k x ≡ (if r.tag == t then None else x)) → (n : Name) → r.name ≡ Some n →
      name_on r.tag past ≡ Some n → Move c past r k
  rests : is_epoch k ≡ false → gives_name k ≡ false → answers k ≡ false → ((t : ℕ) (x : Option Name) → held_after t r k x ≡ x) →
      ((n : Name) → r.name ≡ Some n → is_open_entry past n ≡ true → (x : Bool) → answer_kind k x ≡ x) → Move c past r k
  starts : is_epoch k ≡ true → answers k ≡ false → past ≡ [] → Move c past r k

module _ (c : DownSession) (past : List Record) where
  own_tag : (r : Record) (n : Name) → r.name ≡ Some n → name_on r.tag past ≡ Some n → not (holds_own past r) ≡ false
  own_tag r n is on = own_tag_of past r n is on

  -- an answer that is late comes for a dispatch that isn't open
  late : (r : Record) (q : Name → Bool) → on_own_tag past r (λ n. answer_due n past && not (is_open_entry past n) && q n) ≡ true → (n : Name) → r.name ≡ Some n → is_open_entry past n ≡ true → ⊥
  late r q m n is opened =
      (let a = of_some _ r.name m in
      let b = and_parts _ _ (and_parts _ _ (and_parts _ _ a.2).0).0 in
      let same : a.0 ≡ n = same_Some a.0 n (sym a.1 ∙ is) in
      not_both (is_open_entry past n) (not_true (is_open_entry past n) (ap (λ x. not (is_open_entry past x)) (sym same) ∙ b.1)) opened)

  pub move : (r : Record) (k : RecordKind) → may_follow c past r k ≡ true → (misuses_tag past r k ≡ false) × (is_offered k ≡ false) × Move c past r k
  move r Took m = (let a = and_parts _ _ m in let b = and_parts _ _ a.0 in let d = and_parts _ _ b.0 in (free_tag (name_on r.tag past) d.1, refl, takes refl refl refl refl (λ x. refl) (λ t x. refl) a.1))
  move r TookDrained m = (let a = and_parts _ _ m in let b = and_parts _ _ a.0 in let d = and_parts _ _ b.0 in (free_tag (name_on r.tag past) d.1, refl, refuses refl refl refl (λ t x. refl) a.1))
  move r (Discarded x) m = (let a = and_parts _ _ m in let s = of_some _ r.name a.1 in let on = named s.0 (name_on r.tag past) (and_parts _ _ s.2).0 in (own_tag r s.0 s.1 on, refl, replies refl refl refl (λ t x. refl) s.0 s.1 on))
  move r Ponged m = (refl, refl, rests refl refl refl (λ t x. refl) (λ n e o x. refl))
  move r InitDone m = (refl, refl, rests refl refl refl (λ t x. refl) (λ n e o x. refl))
  move r Echoed m = (refl, refl, rests refl refl refl (λ t x. refl) (λ n e o x. refl))
  move r OutOfPlace m = (refl, refl, rests refl refl refl (λ t x. refl) (λ n e o x. refl))
  move r Unsupported m = (refl, refl, rests refl refl refl (λ t x. refl) (λ n e o x. refl))
  move r DrainAcked m = (refl, refl, rests refl refl refl (λ t x. refl) (λ n e o x. refl))
  move r Ignored m = (refl, refl, rests refl refl refl (λ t x. refl) (λ n e o x. refl))
  move r (Rolled number) m = (refl, refl, rests refl refl refl (λ t x. refl) (λ n e o x. refl))
  move r (Noted x) m = (refl, refl, rests refl refl refl (λ t x. refl) (λ n e o x. refl))
  move r Passed m = (let s = answered c past r (is_answered_by past) (λ n h. h) m in (own_tag r s.0 s.1 s.3, refl, replies refl refl refl (λ t x. refl) s.0 s.1 s.3))
  move r Retried m = (refl, refl, rests refl refl refl (λ t x. refl) (λ n e o x. refl))
  move r Nacked m = (let s = answered c past r _ (λ n h. (and_parts _ _ h).0) m in (own_tag r s.0 s.1 s.3, refl, replies refl refl refl (λ t x. refl) s.0 s.1 s.3))
  move r Unrouted m = (let s = answered c past r _ (λ n h. (and_parts _ _ h).0) m in (own_tag r s.0 s.1 s.3, refl, replies refl refl refl (λ t x. refl) s.0 s.1 s.3))
  move r Failed m = (let s = answered c past r (is_answered_by past) (λ n h. h) m in (own_tag r s.0 s.1 s.3, refl, replies refl refl refl (λ t x. refl) s.0 s.1 s.3))
  move r (Late whole) m = (refl, refl, rests refl refl refl (λ t x. refl) (λ n is opened x. absurd (late r (λ n. if whole then note_due n past else true) m n is opened)))
  move r DrainAsked m = (refl, refl, rests refl refl refl (λ t x. refl) (λ n e o x. refl))
  move r (Closed x) m = (refl, refl, rests refl refl refl (λ t x. refl) (λ n e o x. refl))
  move r Lost m = (refl, refl, rests refl refl refl (λ t x. refl) (λ n e o x. refl))
  move r Recalled m = (refl, refl, rests refl refl refl (λ t x. refl) (λ n e o x. refl))
  move r Offered m = absurd (cc)
  move r (Settled x) m = absurd (cc)
  move r SettledNack m = absurd (cc)
  move r Dropped m = absurd (cc)
  move r PingDone m = absurd (cc)
  move r (Leased x) m = absurd (cc)
  move r Drained m = absurd (cc)
  move r InitAsked m = absurd (cc)
  move r Discarding m = absurd (cc)
  move r Clock m = absurd (cc)
  move r Retired m = absurd (cc)
  move r PingSent m = absurd (cc)
  move r LostOne m = absurd (cc)
  move r (Epoch number (Down fresh drain dispatches)) m = (refl, refl, starts refl refl (none_before past (and_parts _ _ (and_parts _ _ (and_parts _ _ m).0).0).0))
  move r (Epoch number (Up init drained retired ping leased lapse)) m = absurd (cc)

module _ (s : UpSession) (past : List Record) where
  pub up_alone : (r : Record) (k : RecordKind) → may_follow_up s past r k ≡ true →
      (misuses_tag past r k ≡ false) × (answers k ≡ false) × ((is_offered k && stands is_drained_kind past) ≡ false) × ((is_offered k && has_lapsed (lease_of past) r.reading) ≡ false)
  up_alone r Took m = absurd (cc)
  up_alone r TookDrained m = absurd (cc)
  up_alone r (Discarded x) m = absurd (cc)
  up_alone r Ponged m = (refl, refl, refl, refl)
  up_alone r InitDone m = (refl, refl, refl, refl)
  up_alone r Echoed m = absurd (cc)
  up_alone r OutOfPlace m = absurd (cc)
  up_alone r Unsupported m = (refl, refl, refl, refl)
  up_alone r DrainAcked m = absurd (cc)
  up_alone r Ignored m = (refl, refl, refl, refl)
  up_alone r (Rolled number) m = (refl, refl, refl, refl)
  up_alone r (Noted x) m = absurd (cc)
  up_alone r Passed m = absurd (cc)
  up_alone r Retried m = absurd (cc)
  up_alone r Nacked m = absurd (cc)
  up_alone r Unrouted m = absurd (cc)
  up_alone r Failed m = absurd (cc)
  up_alone r (Late x) m = absurd (cc)
  up_alone r DrainAsked m = absurd (cc)
  up_alone r (Closed x) m = (refl, refl, refl, refl)
  up_alone r Lost m = (refl, refl, refl, refl)
  up_alone r Recalled m = absurd (cc)
  up_alone r Offered m = (let lapsed = and_parts _ _ m in let retired = and_parts _ _ lapsed.0 in let drained = and_parts _ _ retired.0 in let begun = and_parts _ _ drained.0 in
      let free = and_parts _ _ begun.0 in (free_tag (name_on r.tag past) free.1, refl, not_true (stands is_drained_kind past) drained.1, not_true (has_lapsed (lease_of past) r.reading) lapsed.1))
  up_alone r (Settled x) m = (let a = and_parts _ _ m in let b = and_parts _ _ a.0 in (ap not b.1, refl, refl, refl))
  up_alone r SettledNack m = (let b = and_parts _ _ m in (ap not b.1, refl, refl, refl))
  up_alone r Dropped m = (refl, refl, refl, refl)
  up_alone r PingDone m = (refl, refl, refl, refl)
  up_alone r (Leased x) m = (refl, refl, refl, refl)
  up_alone r Drained m = (refl, refl, refl, refl)
  up_alone r InitAsked m = (refl, refl, refl, refl)
  up_alone r Discarding m = (refl, refl, refl, refl)
  up_alone r Clock m = (refl, refl, refl, refl)
  up_alone r Retired m = (refl, refl, refl, refl)
  up_alone r PingSent m = (refl, refl, refl, refl)
  up_alone r LostOne m = (refl, refl, refl, refl)
  up_alone r (Epoch number standing) m = (refl, refl, refl, refl)

-- names and tags of a client's history: each name holds one tag, was given, and holds none once it is answered
pub record Own (past : List Record) : Type 0 where
  pub tags : (t : ℕ) (n : Name) → name_on t past ≡ Some n → n.seq ≤ dispatches past
  pub told : (n : Name) → has answers n past ≡ true → n.seq ≤ dispatches past
  pub apart : (n : Name) (t : ℕ) → has answers n past ≡ true → name_on t past ≡ Some n → ⊥
  pub one_tag : (n : Name) (t u : ℕ) → name_on t past ≡ Some n → name_on u past ≡ Some n → t ≡ u

pub opened : (b : Bool) (x y : Option Name) (n : Name) → (if b then x else y) ≡ Some n → (b ≡ true) × (x ≡ Some n) ⊎ (b ≡ false) × (y ≡ Some n)
opened true x y n e = inl (refl, e)
opened false x y n e = inr (refl, e)

pub freed : (b : Bool) (y : Option Name) (n : Name) → (if b then None else y) ≡ Some n → (b ≡ false) × (y ≡ Some n)
freed true y n e = absurd (cc)
freed false y n e = (refl, e)

one_more : (k : RecordKind) (d : ℕ) → is_epoch k ≡ false → gives_name k ≡ true → counted k d ≡ d + 1
one_more k d p g = counts_on k d p ∙ ap (λ b. if b then d + 1 else d) g

no_fewer : (k : RecordKind) (d : ℕ) → is_epoch k ≡ false → d ≤ counted k d
no_fewer k d p = omega (arith, counts_on k d p, by_test (gives_name k))
  where
    by_test : (b : Bool) → d ≤ (if b then d + 1 else d)
    by_test true = omega arith
    by_test false = omega arith

module _ (c : DownSession) (past : List Record) (own : Own past) (r : Record) where
  -- the new name and its number
  pub next : of_named (is_next_name c past) r.name ≡ true → (m : Name) × (r.name ≡ Some m) × (m.seq ≡ dispatches past + 1)
  next e = (let x = of_some (is_next_name c past) r.name e in (x.0, x.1, eqb-true x.0.seq (dispatches past + 1) (and_parts _ _ (and_parts _ _ x.2).0).1))

  -- a name that was answered before, or by this record
  answered_here : (n : Name) → has answers n (r ∷ past) ≡ true → (answers r.kind ≡ true) × (r.name ≡ Some n) ⊎ (has answers n past ≡ true)
  answered_here n h =
      elim (or_cases (answers r.kind && is_named n r.name) (has answers n past) h) [
        | inl a ↦ (let b = and_parts _ _ a in inl (b.0, named n r.name b.1))
        | inr a ↦ inr a
      ]

  -- a name that holds a tag then: as before, or it is the new one on the record's tag
  pub holds : Move c past r r.kind → (t : ℕ) (n : Name) → name_on t (r ∷ past) ≡ Some n →
      (name_on t past ≡ Some n) × (is_epoch r.kind ≡ false)
      ⊎ (is_epoch r.kind ≡ false) × (gives_name r.kind ≡ true) × (is_took r.kind ≡ true) × ((x : Bool) → answer_kind r.kind x ≡ true) × (answers r.kind ≡ false) × (r.tag ≡ t) × (r.name ≡ Some n)
      × (n.seq ≡ dispatches past + 1)
  holds (takes p g a k due held is) t n e =
      elim (opened (r.tag == t) r.name (name_on t past) n (sym (held t (name_on t past)) ∙ e)) [
        | inl x ↦ (let y = next is in inr (p, g, k, due, a, eqb-true r.tag t x.0, x.1, sym (ap (λ (m : Name). m.seq) (same_Some y.0 n (sym y.1 ∙ x.1))) ∙ y.2))
        | inr x ↦ inl (x.1, p)
      ]
  holds (refuses p g a held is) t n e = inl (sym (held t (name_on t past)) ∙ e, p)
  holds (replies p g a held m is on) t n e = inl ((freed (r.tag == t) (name_on t past) n (sym (held t (name_on t past)) ∙ e)).1, p)
  holds (rests p g a held due) t n e = inl (sym (held t (name_on t past)) ∙ e, p)
  holds (starts p a none) t n e = absurd (let x : None ≡ Some n = sym (forgets t r r.kind (name_on t past) p) ∙ e in cc)

  tags_more : Move c past r r.kind → (t : ℕ) (n : Name) → name_on t (r ∷ past) ≡ Some n → n.seq ≤ dispatches (r ∷ past)
  tags_more m t n e =
      elim (holds m t n e) [
        | inl x ↦ omega (arith, own.tags t n x.0, no_fewer r.kind (dispatches past) x.1)
        | inr x ↦ omega (arith, x.7, one_more r.kind (dispatches past) x.0 x.1)
      ]

  told_more : Move c past r r.kind → (n : Name) → has answers n (r ∷ past) ≡ true → n.seq ≤ dispatches (r ∷ past)
  told_more m n h =
      elim (answered_here n h) [ inl x ↦ by_move m x.0 x.1 | inr x ↦ before m x ]
    where
      before : Move c past r r.kind → has answers n past ≡ true → n.seq ≤ dispatches (r ∷ past)
      before (takes p g a k due held is) x = omega (arith, own.told n x, no_fewer r.kind (dispatches past) p)
      before (refuses p g a held is) x = omega (arith, own.told n x, no_fewer r.kind (dispatches past) p)
      before (replies p g a held m is on) x = omega (arith, own.told n x, no_fewer r.kind (dispatches past) p)
      before (rests p g a held due) x = omega (arith, own.told n x, no_fewer r.kind (dispatches past) p)
      before (starts p a none) x = not_both (has answers n past) (ap (has answers n) none) x

      by_move : Move c past r r.kind → answers r.kind ≡ true → r.name ≡ Some n → n.seq ≤ dispatches (r ∷ past)
      by_move (takes p g a k due held is) does e = not_both (answers r.kind) a does
      by_move (refuses p g a held is) does e =
          (let y = next is in omega (arith, y.2, ap (λ (x : Name). x.seq) (same_Some y.0 n (sym y.1 ∙ e)), one_more r.kind (dispatches past) p g))
      by_move (replies p g a held k is on) does e = omega (arith, own.tags r.tag n (on ∙ ap Some (same_Some k n (sym is ∙ e))), no_fewer r.kind (dispatches past) p)
      by_move (rests p g a held due) does e = not_both (answers r.kind) a does
      by_move (starts p a none) does e = not_both (answers r.kind) a does

  apart_more : Move c past r r.kind → (n : Name) (t : ℕ) → has answers n (r ∷ past) ≡ true → name_on t (r ∷ past) ≡ Some n → ⊥
  apart_more m n t h e =
      elim (answered_here n h) [
        | inl x ↦ by_move m x.0 x.1 e
        | inr x ↦ elim (holds m t n e) [ inl y ↦ own.apart n t x y.0 | inr y ↦ omega (arith, own.told n x, y.7) ]
      ]
    where
      by_move : Move c past r r.kind → answers r.kind ≡ true → r.name ≡ Some n → name_on t (r ∷ past) ≡ Some n → ⊥
      by_move (takes p g a k due held is) does under e = not_both (answers r.kind) a does
      by_move (refuses p g a held is) does under e =
          (let y = next is in omega (arith, y.2, ap (λ (x : Name). x.seq) (same_Some y.0 n (sym y.1 ∙ under)), own.tags t n (sym (held t (name_on t past)) ∙ e)))
      by_move (replies p g a held k is on) does under e =
          (let x = freed (r.tag == t) (name_on t past) n (sym (held t (name_on t past)) ∙ e) in
          not_both (r.tag == t) x.0 (eq-eqb r.tag t (own.one_tag n r.tag t (on ∙ ap Some (same_Some k n (sym is ∙ under))) x.1)))
      by_move (rests p g a held due) does under e = not_both (answers r.kind) a does
      by_move (starts p a none) does under e = not_both (answers r.kind) a does

  one_more_tag : Move c past r r.kind → (n : Name) (t u : ℕ) → name_on t (r ∷ past) ≡ Some n → name_on u (r ∷ past) ≡ Some n → t ≡ u
  one_more_tag m n t u d e =
      elim (holds m t n d) [
        | inl x ↦ elim (holds m u n e) [ inl y ↦ own.one_tag n t u x.0 y.0 | inr y ↦ absurd (omega (arith, own.tags t n x.0, y.7)) ]
        | inr x ↦ elim (holds m u n e) [ inl y ↦ absurd (omega (arith, own.tags u n y.0, x.7)) | inr y ↦ sym x.5 ∙ y.5 ]
      ]

  pub own_more : Move c past r r.kind → Own (r ∷ past)
  own_more m = record { tags = tags_more m; told = told_more m; apart = apart_more m; one_tag = one_more_tag m }

  once : Move c past r r.kind → is_answered_twice past r ≡ false
  once (takes p g a k due held is) = ap (λ b. b && of_named (λ n. has answers n past) r.name) a
  once (refuses p g a held is) =
      (let y = next is in
      ap (λ b. b && of_named (λ n. has answers n past) r.name) a ∙ (ap (of_named (λ n. has answers n past)) y.1 ∙ false_from_ne_true (has answers y.0 past) (λ h. omega (arith, own.told y.0 h, y.2))))
  once (replies p g a held n is on) =
      ap (λ b. b && of_named (λ n. has answers n past) r.name) a ∙ (ap (of_named (λ n. has answers n past)) is ∙ false_from_ne_true (has answers n past) (λ h. own.apart n r.tag h on))
  once (rests p g a held due) = ap (λ b. b && of_named (λ n. has answers n past) r.name) a
  once (starts p a none) = ap (λ b. b && of_named (λ n. has answers n past) r.name) a

-- whole histories
pub own_of : (c : DownSession) (rs : List Record) → is_down_history c rs ≡ true → Own rs
own_of c [] h = record { tags = λ t n e. absurd (cc); told = λ n e. absurd (cc); apart = λ n t d e. absurd (cc); one_tag = λ n t u d e. absurd (cc) }
own_of c (r ∷ old) h = (let a = and_parts _ _ h in own_more c old (own_of c old a.1) r (move c old r r.kind (and_parts _ _ a.0).0).2)

down_alone : (c : DownSession) (rs : List Record) → is_down_history c rs ≡ true → AreFaultlessAlone rs
down_alone c [] h = tt
down_alone c (r ∷ old) h =
    let a = and_parts _ _ h in
    let m = move c old r r.kind (and_parts _ _ a.0).0 in (
      record {
        answered_once = once c old (own_of c old a.1) r m.2;
        on_its_tag = m.0;
        before_drain = ap (λ b. b && stands is_drained_kind old) m.1;
        on_its_lease = ap (λ b. b && has_lapsed (lease_of old) r.reading) m.1;
      },
      down_alone c old a.1,
    )

server_alone : (s : UpSession) (rs : List Record) → is_up_history s rs ≡ true → AreFaultlessAlone rs
server_alone s [] h = tt
server_alone s (r ∷ old) h =
    let a = and_parts _ _ h in
    let m = up_alone s old r r.kind (and_parts _ _ a.0).0 in (
      record {
        answered_once = ap (λ b. b && of_named (λ n. has answers n old) r.name) m.1;
        on_its_tag = m.0;
        before_drain = m.2;
        on_its_lease = m.3;
      },
      server_alone s old a.1,
    )

pub kept_histories_are_faultless : KeptHistoriesAreFaultless
kept_histories_are_faultless limits boot mode (Client k) rs h = down_alone (record { limits = limits; boot = boot; number = k }) rs h
kept_histories_are_faultless limits boot mode (Server k) rs h = server_alone (record { limits = limits; number = k; mode = mode }) rs h
