-- The names in what a session keeps: each comes from a dispatch that was taken, or offered, in the same list.
use Rattle.std.proofs.Common.{ℕ, List, [], ◌∷◌, ◌≡◌, ◌≤◌, ◌&&◌, ◌||◌, ◌⊎◌, inl, inr, Bool, true, false, Option, Some, None, refl, sym, ◌∙◌, ap, subst, arith}
use Rattle.std.specs.Prelude.{if◌then◌else◌, ◌==◌, find, reverse}
use Rattle.std.specs.List.{AllByRecursion}
use Rattle.std.proofs.lemmas.Bool.{and_parts, eqb-true, or_cases}
use Rattle.mux_history.specs.Bounds.{Bounds}
use Rattle.mux_history.specs.declared.name.Name.{Name}
use Rattle.mux_history.specs.declared.record.Record.{Record}
use Rattle.mux_history.specs.declared.kind.RecordKind.{RecordKind}
use Rattle.mux_history.specs.declared.kind.RecordKind.TheVariants.{Took, TookDrained, Discarded, Ponged, InitDone, Echoed, OutOfPlace, Unsupported, DrainAcked, Ignored, Noted, Passed, Retried, Nacked, Unrouted, Failed, Late, DrainAsked, Closed, Lost, Recalled, Offered, Settled, SettledNack, Dropped, PingDone, Leased, Drained, InitAsked, Discarding, Clock, Retired, PingSent, LostOne, Epoch, Rolled}
use Rattle.mux_history.specs.declared.kind.Standing.TheVariants.{Down, Up}
use Rattle.mux_history.specs.declared.session.InitMode.{InitMode}
use Rattle.mux_history.specs.declared.session.SessionId.TheVariants.{Server}
use Rattle.mux_history.specs.Holders.{of_named, name_on, held_after}
use Rattle.mux_history.specs.Readings.{Sending, answer_due, answer_kind, book, gives_name, has_ended, is_epoch, is_named, is_offered, note_due, note_kind, present, sending_on, sendings, since}
use Rattle.mux_agree.specs.Agree.{answers, is_lost_one, is_replied}
use Rattle.mux_agree.specs.Facts.{is_discarding}
use Rattle.mux_model.specs.Down.{DownSession, next_recalled, owes_recall}
use Rattle.mux_model.specs.Up.{UpSession, is_recallable}
use Rattle.mux_model.specs.Replay.{are_histories, epochs, is_next_name, may_follow, may_follow_up, is_up_history}
use Rattle.mux_legal.proofs.Basics.{is_its_name, named, not_true, one_if, or_true}
use Rattle.mux_legal.proofs.KeptAlone.{opened, freed}
use Rattle.mux_legal.proofs.KeptSendings.{HoldsTag, all_hold, lost_holds, some_name}
use Rattle.mux_legal.proofs.ToldDown.{none_of, of_some}
use Rattle.mux_legal.proofs.ToldEpochs.{each_epoch}
use Rattle.mux_legal.proofs.ToldHolders.{occurs}
use Rattle.rolling_audit.specs.Histories.{needs_name}

-- a record of whatever kind
abbrev pub any : RecordKind → Bool
any k = true

pub one_most : (b : Bool) → one_if b ≤ 1
one_most true = omega arith
one_most false = omega arith

pub and_none : (x : Bool) → (x && false) ≡ false
and_none true = refl
and_none false = refl

-- some record bears the name
abbrev pub Bears : Name → List Record → Type 0
Bears n [] = ⊥
Bears n (r ∷ old) = (r.name ≡ Some n) ⊎ Bears n old

-- what a word finds was told by a record
pub since_bears : (step : RecordKind → Bool → Bool) (n : Name) (rs : List Record) → since step n rs ≡ true → Bears n rs
since_bears step n [] h = absurd (cc)
since_bears step n (r ∷ old) h = by_tests (is_epoch r.kind) (is_named n r.name) refl h (since_bears step n old)
  where
    by_tests : (a b : Bool) → is_named n r.name ≡ b → (if a then false else if b then step r.kind (since step n old) else since step n old) ≡ true →
        (since step n old ≡ true → Bears n old) → (r.name ≡ Some n) ⊎ Bears n old
    by_tests true b is h rest = absurd (cc)
    by_tests false true is h rest = inl (named n r.name is)
    by_tests false false is h rest = inr (rest h)

held_is : (t : ℕ) (r : Record) (k : RecordKind) (before : Option Name) (n : Name) → held_after t r k before ≡ Some n → (r.name ≡ Some n) ⊎ (before ≡ Some n)
held_is t r Took before n h = elim (opened (r.tag == t) r.name before n h) [ inl x ↦ inl x.1 | inr x ↦ inr x.1 ]
held_is t r Offered before n h = elim (opened (r.tag == t) r.name before n h) [ inl x ↦ inl x.1 | inr x ↦ inr x.1 ]
held_is t r (Discarded x) before n h = inr (freed (r.tag == t) before n h).1
held_is t r Passed before n h = inr (freed (r.tag == t) before n h).1
held_is t r Nacked before n h = inr (freed (r.tag == t) before n h).1
held_is t r Unrouted before n h = inr (freed (r.tag == t) before n h).1
held_is t r Failed before n h = inr (freed (r.tag == t) before n h).1
held_is t r (Settled x) before n h = inr (freed (r.tag == t) before n h).1
held_is t r SettledNack before n h = inr (freed (r.tag == t) before n h).1
held_is t r (Epoch number standing) before n h = absurd (cc)
held_is t r _ before n h = inr h

pub holder_bears : (t : ℕ) (n : Name) (rs : List Record) → name_on t rs ≡ Some n → Bears n rs
holder_bears t n [] h = absurd (cc)
holder_bears t n (r ∷ old) h = elim (held_is t r r.kind (name_on t old) n h) [ inl x ↦ inl x | inr x ↦ inr (holder_bears t n old x) ]

-- the present epoch is a part of all records
pub present_bears : (n : Name) (rs : List Record) → Bears n (present rs) → Bears n rs
present_bears n [] h = h
present_bears n (r ∷ old) h = by_epoch (is_epoch r.kind) h (present_bears n old)
  where
    by_epoch : (b : Bool) → (r.name ≡ Some n) ⊎ Bears n (if b then [] else present old) → (Bears n (present old) → Bears n old) → (r.name ≡ Some n) ⊎ Bears n old
    by_epoch b (inl x) rest = inl x
    by_epoch true (inr x) rest = absurd x
    by_epoch false (inr x) rest = inr (rest x)

-- before a record of its epoch
pub before_bears : (n : Name) (r : Record) (old : List Record) → Bears n (if is_epoch r.kind then [] else present old) → Bears n old
before_bears n r old h = by_epoch (is_epoch r.kind) h
  where
    by_epoch : (b : Bool) → Bears n (if b then [] else present old) → Bears n old
    by_epoch true h = absurd h
    by_epoch false h = present_bears n old h

pub find_passes : (p : Name → Bool) (ns : List Name) (m : Name) → find p ns ≡ Some m → p m ≡ true
find_passes p [] m h = absurd (cc)
find_passes p (n ∷ ns) m h = by_test (p n) refl h (find_passes p ns m)
  where
    by_test : (b : Bool) → p n ≡ b → (if b then Some n else find p ns) ≡ Some m → (find p ns ≡ Some m → p m ≡ true) → p m ≡ true
    by_test true e h rest = (let same : n ≡ m = cc in sym (ap p same) ∙ e)
    by_test false e h rest = rest h

-- A CLIENT'S

-- where the name of a record comes from: it has none and needs none, it is the next one, or an earlier record bears it
pub data Source (c : DownSession) (past : List Record) (r : Record) (k : RecordKind) : Type 0 where
  alone : gives_name k ≡ false → needs_name k ≡ false → r.name ≡ None → Source c past r k
  next : gives_name k ≡ true → (n : Name) → r.name ≡ Some n → is_next_name c past n ≡ true → Source c past r k
  known : gives_name k ≡ false → (n : Name) → r.name ≡ Some n → Bears n past → Source c past r k

-- the same by what the records before it say
pub data Reason (c : DownSession) (past : List Record) (r : Record) (k : RecordKind) : Type 0 where
  nameless : gives_name k ≡ false → needs_name k ≡ false → r.name ≡ None → Reason c past r k
  takes : gives_name k ≡ true → (n : Name) → r.name ≡ Some n → is_next_name c past n ≡ true → Reason c past r k
  due : gives_name k ≡ false → (n : Name) → r.name ≡ Some n → (note_due n past || answer_due n past) ≡ true → Reason c past r k
  ends_it : gives_name k ≡ false → answers k ≡ true → has_ended past ≡ false → (n : Name) → r.name ≡ Some n → name_on r.tag past ≡ Some n → Reason c past r k

module _ (c : DownSession) (past : List Record) (r : Record) where
  is_next : (k : RecordKind) → gives_name k ≡ true → of_named (is_next_name c past) r.name ≡ true → Reason c past r k
  is_next k g h = (let x = of_some _ r.name h in takes g x.0 x.1 x.2)

  is_due : (p : Name → Bool) → ((n : Name) → p n ≡ true → (note_due n past || answer_due n past) ≡ true) → (k : RecordKind) → gives_name k ≡ false → of_named p r.name ≡ true → Reason c past r k
  is_due p owed k g h = (let x = of_some p r.name h in due g x.0 x.1 (owed x.0 x.2))

  owes_note : (n : Name) → note_due n past ≡ true → (note_due n past || answer_due n past) ≡ true
  owes_note n h = ap (λ b. b || answer_due n past) h

  owes_answer : (n : Name) → answer_due n past ≡ true → (note_due n past || answer_due n past) ≡ true
  owes_answer n h = ap (λ b. note_due n past || b) h ∙ or_true (note_due n past)

  recalled_due : (n : Name) → is_named n (next_recalled past) ≡ true → (note_due n past || answer_due n past) ≡ true
  recalled_due n h =
      owes_answer n (and_parts _ _ (and_parts _ _ (find_passes (owes_recall past) (reverse (book past)) n (named n (next_recalled past) h))).0).1

  pub reason : (k : RecordKind) → may_follow c past r k ≡ true → Reason c past r k
  reason Took m = is_next Took refl (and_parts _ _ m).1
  reason TookDrained m = is_next TookDrained refl (and_parts _ _ m).1
  reason (Discarded x) m =
      (let a = and_parts _ _ m in let s = of_some _ r.name a.1 in
      ends_it refl refl (not_true (has_ended past) (and_parts _ _ a.0).0) s.0 s.1 (named s.0 (name_on r.tag past) (and_parts _ _ s.2).0))
  reason Ponged m = nameless refl refl (none_of r.name (and_parts _ _ m).1)
  reason Ignored m = nameless refl refl (none_of r.name (and_parts _ _ m).1)
  reason InitDone m = nameless refl refl (none_of r.name (and_parts _ _ (and_parts _ _ m).0).1)
  reason Echoed m = nameless refl refl (none_of r.name (and_parts _ _ (and_parts _ _ (and_parts _ _ m).0).1).0)
  reason OutOfPlace m = nameless refl refl (none_of r.name (and_parts _ _ (and_parts _ _ (and_parts _ _ m).0).0).1)
  reason Unsupported m = nameless refl refl (none_of r.name (and_parts _ _ (and_parts _ _ (and_parts _ _ m).0).0).1)
  reason DrainAcked m = nameless refl refl (none_of r.name (and_parts _ _ (and_parts _ _ (and_parts _ _ m).0).1).0)
  reason (Noted x) m = is_due _ (λ n h. owes_note n (and_parts _ _ (and_parts _ _ h).0).0) (Noted x) refl m
  reason Passed m = is_due _ (λ n h. owes_answer n (and_parts _ _ (and_parts _ _ h).0).0) Passed refl m
  reason Failed m = is_due _ (λ n h. owes_answer n (and_parts _ _ (and_parts _ _ h).0).0) Failed refl m
  reason Retried m = is_due _ (λ n h. owes_answer n (and_parts _ _ (and_parts _ _ (and_parts _ _ (and_parts _ _ h).0).0).0).0) Retried refl m
  reason Nacked m = is_due _ (λ n h. owes_answer n (and_parts _ _ (and_parts _ _ (and_parts _ _ h).0).0).0) Nacked refl m
  reason Unrouted m = is_due _ (λ n h. owes_answer n (and_parts _ _ (and_parts _ _ (and_parts _ _ h).0).0).0) Unrouted refl m
  reason (Late x) m = is_due _ (λ n h. owes_answer n (and_parts _ _ (and_parts _ _ (and_parts _ _ h).0).0).0) (Late x) refl m
  reason DrainAsked m = nameless refl refl (none_of r.name (and_parts _ _ (and_parts _ _ (and_parts _ _ m).0).1).0)
  reason (Closed x) m = nameless refl refl (none_of r.name (and_parts _ _ (and_parts _ _ m).1).0)
  reason Lost m = nameless refl refl (none_of r.name (and_parts _ _ (and_parts _ _ m).1).0)
  reason Recalled m = is_due _ (λ n h. recalled_due n (and_parts _ _ h).0) Recalled refl (and_parts _ _ m).1
  reason (Epoch number (Down fresh drain dispatches)) m = nameless refl refl (none_of r.name (and_parts _ _ (and_parts _ _ (and_parts _ _ (and_parts _ _ m).0).0).1).0)
  reason (Rolled number) m = nameless refl refl (none_of r.name (and_parts _ _ (and_parts _ _ (and_parts _ _ (and_parts _ _ m).0).0).1).0)
  reason (Epoch number (Up init drained retired ping leased lapse)) m = absurd (cc)
  reason Offered m = absurd (cc)
  reason (Settled x) m = absurd (cc)
  reason SettledNack m = absurd (cc)
  reason Dropped m = absurd (cc)
  reason PingDone m = absurd (cc)
  reason (Leased x) m = absurd (cc)
  reason Drained m = absurd (cc)
  reason InitAsked m = absurd (cc)
  reason Discarding m = absurd (cc)
  reason Clock m = absurd (cc)
  reason Retired m = absurd (cc)
  reason PingSent m = absurd (cc)
  reason LostOne m = absurd (cc)

  pub source : (k : RecordKind) → may_follow c past r k ≡ true → Source c past r k
  source k m = by_reason (reason k m)
    where
      due_bears : (n : Name) → (note_due n past || answer_due n past) ≡ true → Bears n past
      due_bears n h = elim (or_cases (note_due n past) (answer_due n past) h) [ inl x ↦ since_bears note_kind n past x | inr x ↦ since_bears answer_kind n past x ]

      by_reason : Reason c past r k → Source c past r k
      by_reason (nameless g x none) = alone g x none
      by_reason (takes g n is x) = next g n is x
      by_reason (due g n is x) = known g n is (due_bears n x)
      by_reason (ends_it g a going n is on) = known g n is (holder_bears r.tag n past on)

-- A SERVER'S

pub data UpSource (past : List Record) (r : Record) (k : RecordKind) : Type 0 where
  alone : needs_name k ≡ false → r.name ≡ None → UpSource past r k
  offers : is_offered k ≡ true → (n : Name) → r.name ≡ Some n → UpSource past r k
  known : (n : Name) → r.name ≡ Some n → Bears n past → UpSource past r k

-- the same by what it does
pub data UpReason (past : List Record) (r : Record) (k : RecordKind) : Type 0 where
  nameless : needs_name k ≡ false → r.name ≡ None → UpReason past r k
  sends : is_offered k ≡ true → (n : Name) → r.name ≡ Some n → UpReason past r k
  ends_it : (is_replied k || is_lost_one k) ≡ true → (n : Name) → r.name ≡ Some n → Bears n past → UpReason past r k
  discards : is_discarding k ≡ true → has_ended past ≡ false → (n : Name) → r.name ≡ Some n → name_on r.tag past ≡ Some n → UpReason past r k

-- the dispatch that is out on a tag
sending_there : (P : Sending → Type 0) (t : ℕ) (ss : List Sending) (x : Sending) → AllByRecursion P ss → sending_on t ss ≡ Some x → P x × (x.tag ≡ t)
sending_there P t [] x all h = absurd (cc)
sending_there P t (s ∷ ss) x all h = by_test (s.tag == t) refl h (sending_there P t ss x all.1)
  where
    by_test : (b : Bool) → (s.tag == t) ≡ b → (if b then Some s else sending_on t ss) ≡ Some x → (sending_on t ss ≡ Some x → P x × (x.tag ≡ t)) → P x × (x.tag ≡ t)
    by_test true e h rest = (let same : s ≡ x = cc in (subst P same all.0, ap (λ (y : Sending). y.tag) (sym same) ∙ eqb-true s.tag t e))
    by_test false e h rest = rest h

module _ (s : UpSession) (past : List Record) (history : is_up_history s past ≡ true) (r : Record) where
  recallable_on : (n : Name) → is_recallable n (sending_on r.tag (sendings past)) ≡ true → name_on r.tag past ≡ Some n
  recallable_on n h = by_sending (sending_on r.tag (sendings past)) refl h
    where
      by_sending : (o : Option Sending) → sending_on r.tag (sendings past) ≡ o → is_recallable n o ≡ true → name_on r.tag past ≡ Some n
      by_sending None e h = absurd (cc)
      by_sending (Some x) e h =
          let held = sending_there (HoldsTag past) r.tag (sendings past) x (all_hold s past history) e in
          ap (λ t. name_on t past) (sym held.1) ∙ (held.0.2 ∙ (sym held.0.1 ∙ named n x.name (and_parts _ _ h).0))

  gone : (k : RecordKind) → (is_replied k || is_lost_one k) ≡ true → (p : Name → Bool) → ((n : Name) → p n ≡ true → Bears n past) → of_named p r.name ≡ true → UpReason past r k
  gone k e p bears h = (let x = of_some p r.name h in ends_it e x.0 x.1 (bears x.0 x.2))

  own_bears : (n : Name) → is_named n (name_on r.tag past) ≡ true → Bears n past
  own_bears n h = holder_bears r.tag n past (named n (name_on r.tag past) h)

  pub up_reason : (k : RecordKind) → may_follow_up s past r k ≡ true → UpReason past r k
  up_reason Offered m =
      (let lapsed = and_parts _ _ m in let retired = and_parts _ _ lapsed.0 in let drained = and_parts _ _ retired.0 in let begun = and_parts _ _ drained.0 in
      let free = and_parts _ _ begun.0 in let below = and_parts _ _ free.0 in let above = and_parts _ _ below.0 in let named = and_parts _ _ above.0 in
      let x = some_name r.name named.1 in sends refl x.0 x.1)
  up_reason (Settled x) m = gone (Settled x) refl _ own_bears (and_parts _ _ (and_parts _ _ m).0).1
  up_reason SettledNack m = gone SettledNack refl _ own_bears (and_parts _ _ m).1
  up_reason Dropped m = nameless refl (none_of r.name (and_parts _ _ m).1)
  up_reason Ignored m = nameless refl (none_of r.name (and_parts _ _ m).1)
  up_reason Ponged m = nameless refl (none_of r.name (and_parts _ _ m).1)
  up_reason Unsupported m = nameless refl (none_of r.name (and_parts _ _ (and_parts _ _ m).0).1)
  up_reason (Leased x) m = nameless refl (none_of r.name (and_parts _ _ m).1)
  up_reason Drained m = nameless refl (none_of r.name (and_parts _ _ m).1)
  up_reason InitAsked m = nameless refl (none_of r.name (and_parts _ _ (and_parts _ _ (and_parts _ _ m).0).1).0)
  up_reason InitDone m = nameless refl (none_of r.name (and_parts _ _ (and_parts _ _ (and_parts _ _ m).0).1).0)
  up_reason PingDone m = nameless refl (none_of r.name (and_parts _ _ (and_parts _ _ (and_parts _ _ (and_parts _ _ m).0).0).1).0)
  up_reason PingSent m = nameless refl (none_of r.name (and_parts _ _ (and_parts _ _ (and_parts _ _ (and_parts _ _ m).0).0).1).0)
  up_reason Discarding m =
      (let a = and_parts _ _ m in let x = of_some _ r.name a.1 in discards refl (not_true (has_ended past) a.0) x.0 x.1 (recallable_on x.0 x.2))
  up_reason Clock m = nameless refl (none_of r.name (and_parts _ _ (and_parts _ _ m).1).0)
  up_reason Retired m = nameless refl (none_of r.name (and_parts _ _ (and_parts _ _ m).1).0)
  up_reason (Closed x) m = nameless refl (none_of r.name (and_parts _ _ (and_parts _ _ (and_parts _ _ m).0).1).0)
  up_reason Lost m = nameless refl (none_of r.name (and_parts _ _ (and_parts _ _ m).1).0)
  up_reason LostOne m = gone LostOne refl _ (λ n h. (let x = lost_holds s past history n r.tag h in holder_bears x.0 n past x.1)) (and_parts _ _ m).1
  up_reason (Epoch number (Up init drained retired ping leased lapse)) m = nameless refl (none_of r.name (and_parts _ _ (and_parts _ _ (and_parts _ _ (and_parts _ _ m).0).0).1).0)
  up_reason (Rolled number) m = nameless refl (none_of r.name (and_parts _ _ (and_parts _ _ (and_parts _ _ (and_parts _ _ m).0).0).1).0)
  up_reason (Epoch number (Down fresh drain dispatches)) m = absurd (cc)
  up_reason Took m = absurd (cc)
  up_reason TookDrained m = absurd (cc)
  up_reason (Discarded x) m = absurd (cc)
  up_reason Echoed m = absurd (cc)
  up_reason OutOfPlace m = absurd (cc)
  up_reason DrainAcked m = absurd (cc)
  up_reason (Noted x) m = absurd (cc)
  up_reason Passed m = absurd (cc)
  up_reason Retried m = absurd (cc)
  up_reason Nacked m = absurd (cc)
  up_reason Unrouted m = absurd (cc)
  up_reason Failed m = absurd (cc)
  up_reason (Late x) m = absurd (cc)
  up_reason DrainAsked m = absurd (cc)
  up_reason Recalled m = absurd (cc)

  pub up_source : (k : RecordKind) → may_follow_up s past r k ≡ true → UpSource past r k
  up_source k m = by_reason (up_reason k m)
    where
      by_reason : UpReason past r k → UpSource past r k
      by_reason (nameless x none) = alone x none
      by_reason (sends o n is) = offers o n is
      by_reason (ends_it e n is x) = known n is x
      by_reason (discards e going n is on) = known n is (holder_bears r.tag n past on)

-- a name that a server's records bear was offered in them
pub bears_offered : (n : Name) (limits : Bounds) (b : ℕ) (mode : InitMode) (k : ℕ) (rs : List Record) → are_histories limits b mode (Server k) (epochs rs) ≡ true → Bears n rs → 1 ≤ occurs is_offered n rs
bears_offered n limits b mode k [] h bears = absurd bears
bears_offered n limits b mode k (r ∷ old) h (inr x) =
    (let a = each_epoch limits b mode (Server k) r old h in omega (arith, bears_offered n limits b mode k old a.1 x))
bears_offered n limits b mode k (r ∷ old) h (inl is) =
    let a = each_epoch limits b mode (Server k) r old h in
    let f = and_parts _ _ a.0 in
    by_source (up_source (record { limits = limits; number = k; mode = mode }) (if is_epoch r.kind then [] else present old) f.1 r r.kind (and_parts _ _ f.0).0) (bears_offered n limits b mode k old a.1)
  where
    by_source : UpSource (if is_epoch r.kind then [] else present old) r r.kind → (Bears n old → 1 ≤ occurs is_offered n old) → 1 ≤ occurs is_offered n (r ∷ old)
    by_source (alone x none) rest = absurd (let e : None ≡ Some n = sym none ∙ is in cc)
    by_source (offers o m it) rest = omega (arith, ap (λ b. one_if (b && is_named n r.name)) o, ap one_if (is_its_name n r.name is))
    by_source (known m it x) rest =
        (let e : Some m ≡ Some n = sym it ∙ is in
        let same : m ≡ n = cc in
        omega (arith, rest (before_bears n r old (subst (λ y. Bears y (if is_epoch r.kind then [] else present old)) same x))))
