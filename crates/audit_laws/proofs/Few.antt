-- No more than 23 records of a run bear a name.
use Rattle.std.proofs.Common.{ℕ, List, [], ◌∷◌, ◌+◌, ◌*◌, ◌≡◌, ◌≤◌, ◌&&◌, ◌||◌, Bool, true, false, not, Option, Some, None, refl, sym, ◌∙◌, ap, subst, arith}
use Rattle.std.specs.Prelude.{if◌then◌else◌, ◌==◌, map, reverse}
use Rattle.std.proofs.lemmas.Bool.{and_parts}
use Rattle.mux_history.specs.Bounds.{Bounds, InRange}
use Rattle.mux_history.specs.declared.name.Name.{Name}
use Rattle.mux_history.specs.declared.record.Record.{Record}
use Rattle.mux_history.specs.declared.kind.RecordKind.{RecordKind}
use Rattle.mux_history.specs.declared.kind.RecordKind.TheVariants.{Took, TookDrained, Discarded, Ponged, InitDone, Echoed, OutOfPlace, Unsupported, DrainAcked, Ignored, Noted, Passed, Retried, Nacked, Unrouted, Failed, Late, DrainAsked, Closed, Lost, Recalled, Offered, Settled, SettledNack, Dropped, PingDone, Leased, Drained, InitAsked, Discarding, Clock, Retired, PingSent, LostOne, Epoch, Rolled}
use Rattle.mux_history.specs.declared.kind.Standing.TheVariants.{Down, Up}
use Rattle.mux_history.specs.declared.session.InitMode.{InitMode}
use Rattle.mux_history.specs.declared.session.SessionId.{SessionId}
use Rattle.mux_history.specs.declared.session.SessionId.TheVariants.{Client, Server}
use Rattle.mux_history.specs.Holders.{of_named}
use Rattle.mux_history.specs.Readings.{Sending, answer_due, answer_kind, book, gave_recall, gives_name, is_epoch, is_named, is_offered, is_retried, is_took, note_due, note_kind, off_tag, present, recall_kind, recalled_on, sending_on, sendings, sendings_after, since}
use Rattle.mux_history.proofs.Present.{sendings_present, since_present}
use Rattle.mux_agree.specs.Agree.{answers, is_lost_one, is_replied, times}
use Rattle.mux_agree.specs.Walk.{IsFaultless, Stop, all_records, client_records, stops}
use Rattle.mux_model.specs.Down.{DownSession, next_recalled, owes_recall}
use Rattle.mux_model.specs.Up.{UpSession, is_recallable}
use Rattle.mux_model.specs.Events.{Event, run, AllChooseFree}
use Rattle.mux_model.specs.Legal.{EachLine, Line}
use Rattle.mux_model.specs.Replay.{are_histories, epochs, is_joined, may_follow, may_follow_up}
use Rattle.mux_model.specs.Runs.{EachConnection, lines}
use Rattle.mux_model.specs.Steps.{records}
use Rattle.mux_model.specs.World.{Connection, Reached, start, starts}
use Rattle.mux_model.proofs.Happens.{limits_kept, run_reached}
use Rattle.mux_legal.specs.KeptRuns.{history_of}
use Rattle.mux_legal.specs.RunsBearOut.{of_boot}
use Rattle.mux_legal.proofs.Basics.{named, not_true, one_if}
use Rattle.mux_legal.proofs.EndsOnce.{server_balance}
use Rattle.mux_legal.proofs.Invariant.{gifts_opened}
use Rattle.mux_legal.proofs.Kept.{records_follow}
use Rattle.mux_legal.proofs.OfBoot.{boot_most, each_of_boot, total_count}
use Rattle.mux_legal.proofs.RunsBorne.{runs_bear_out}
use Rattle.mux_legal.proofs.ToldDown.{none_of}
use Rattle.mux_legal.proofs.ToldEpochs.{each_epoch}
use Rattle.mux_legal.proofs.ToldHolders.{occurs}
use Rattle.mux_legal.proofs.ToldWalk.{EveryStop, IsNew, every_stop, once, times_occurs, total as count, total_all}
use Rattle.mux_legal.proofs.Tries.{never_often}
use Rattle.mux_legal.proofs.Worlds.{Keeps, reached_keeps}
use Rattle.audit_laws.specs.AuditedRuns.{histories_of}
use Rattle.audit_laws.proofs.Named.{any, find_passes, one_most}

-- A CLIENT'S LIST: how many records of a name may still come, by what is due of it

abbrev owed : (note answer recall : Bool) → ℕ
owed d a g = one_if d + one_if a + one_if (a && not g)

-- a record makes of it what its kind says, where it bears the name
abbrev after : (RecordKind → Bool → Bool) → RecordKind → Bool → Bool → Bool
after step k is was = if is then step k was else was

abbrev Balanced : RecordKind → (is d a g : Bool) → Type 0
Balanced k is d a g =
    one_if is + owed (after note_kind k is d) (after answer_kind k is a) (after recall_kind k is g)
    ≤ 4 * one_if (is_took k && is) + one_if (answers k && is) + 2 * one_if (is_retried k && is) + owed d a g

unnamed : (k : RecordKind) (d a g : Bool) → Balanced k false d a g
unnamed k d a g = omega arith

recalls_less : (a x g : Bool) → one_if (a && not (x || g)) ≤ one_if (a && not g)
recalls_less false x g = omega arith
recalls_less true false g = omega arith
recalls_less true true g = omega arith

took : (d a g : Bool) → Balanced Took true d a g
took d a true = omega arith
took d a false = omega arith

discarded : (x d a g : Bool) → Balanced (Discarded x) true d a g
discarded x d a g = omega (arith, recalls_less a x g)

noted : (x a g : Bool) → Balanced (Noted x) true true a g
noted x a g = omega (arith, recalls_less a x g)

retried : (d a g : Bool) → Balanced Retried true d a g
retried d a g = omega (arith, one_most d)

late : (x d g : Bool) → Balanced (Late x) true d true g
late true d g = omega arith
late false d g = omega arith

recalled : (d : Bool) → Balanced Recalled true d true false
recalled d = omega arith

module _ (c : DownSession) (past : List Record) (r : Record) (n : Name) where
  abbrev In : RecordKind → Bool → Type 0
  In k is = Balanced k is (note_due n past) (answer_due n past) (gave_recall n past)

  in_name : (k : RecordKind) → (is_named n r.name ≡ true → In k true) → In k (is_named n r.name)
  in_name k go = by_test (is_named n r.name) go
    where
      by_test : (is : Bool) → (is ≡ true → In k true) → In k is
      by_test true go = go refl
      by_test false go = unnamed k (note_due n past) (answer_due n past) (gave_recall n past)

  in_none : (k : RecordKind) → r.name ≡ None → In k (is_named n r.name)
  in_none k e = subst (λ o. In k (is_named n o)) (sym e) (unnamed k (note_due n past) (answer_due n past) (gave_recall n past))

  -- a test that its name passes
  passes : (p : Name → Bool) → of_named p r.name ≡ true → is_named n r.name ≡ true → p n ≡ true
  passes p h is = sym (ap (of_named p) (named n r.name is)) ∙ h

  -- one that stands in a reply
  answered : (k : RecordKind) → ((d a g : Bool) → Balanced k true d a g) → In k (is_named n r.name)
  answered k go = in_name k (λ is. go (note_due n past) (answer_due n past) (gave_recall n past))

  owing : is_named n (next_recalled past) ≡ true → (answer_due n past ≡ true) × (gave_recall n past ≡ false)
  owing h =
      let a = and_parts _ _ (find_passes (owes_recall past) (reverse (book past)) n (named n (next_recalled past) h)) in
      ((and_parts _ _ a.0).1, not_true (gave_recall n past) a.1)

  balanced : (k : RecordKind) → is_epoch k ≡ false → may_follow c past r k ≡ true → In k (is_named n r.name)
  balanced Took e m = answered Took took
  balanced TookDrained e m = answered TookDrained (λ d a g. omega arith)
  balanced (Discarded x) e m = answered (Discarded x) (discarded x)
  balanced Ponged e m = in_none Ponged (none_of r.name (and_parts _ _ m).1)
  balanced Ignored e m = in_none Ignored (none_of r.name (and_parts _ _ m).1)
  balanced InitDone e m = in_none InitDone (none_of r.name (and_parts _ _ (and_parts _ _ m).0).1)
  balanced Echoed e m = in_none Echoed (none_of r.name (and_parts _ _ (and_parts _ _ (and_parts _ _ m).0).1).0)
  balanced OutOfPlace e m = in_none OutOfPlace (none_of r.name (and_parts _ _ (and_parts _ _ (and_parts _ _ m).0).0).1)
  balanced Unsupported e m = in_none Unsupported (none_of r.name (and_parts _ _ (and_parts _ _ (and_parts _ _ m).0).0).1)
  balanced DrainAcked e m = in_none DrainAcked (none_of r.name (and_parts _ _ (and_parts _ _ (and_parts _ _ m).0).1).0)
  balanced (Noted x) e m =
      in_name (Noted x) (λ is. (let due = (and_parts _ _ (and_parts _ _ (passes _ m is)).0).0 in
      subst (λ d. Balanced (Noted x) true d (answer_due n past) (gave_recall n past)) (sym due) (noted x (answer_due n past) (gave_recall n past))))
  balanced Passed e m = answered Passed (λ d a g. omega arith)
  balanced Failed e m = answered Failed (λ d a g. omega arith)
  balanced Retried e m = answered Retried retried
  balanced Nacked e m = answered Nacked (λ d a g. omega arith)
  balanced Unrouted e m = answered Unrouted (λ d a g. omega arith)
  balanced (Late x) e m =
      in_name (Late x) (λ is. (let due = (and_parts _ _ (and_parts _ _ (and_parts _ _ (passes _ m is)).0).0).0 in
      subst (λ a. Balanced (Late x) true (note_due n past) a (gave_recall n past)) (sym due) (late x (note_due n past) (gave_recall n past))))
  balanced DrainAsked e m = in_none DrainAsked (none_of r.name (and_parts _ _ (and_parts _ _ (and_parts _ _ m).0).1).0)
  balanced (Closed x) e m = in_none (Closed x) (none_of r.name (and_parts _ _ (and_parts _ _ m).1).0)
  balanced Lost e m = in_none Lost (none_of r.name (and_parts _ _ (and_parts _ _ m).1).0)
  balanced Recalled e m =
      in_name Recalled (λ is. (let due = owing (and_parts _ _ (passes _ (and_parts _ _ m).1 is)).0 in
      subst (λ a. Balanced Recalled true (note_due n past) a (gave_recall n past)) (sym due.0)
      (subst (λ g. Balanced Recalled true (note_due n past) true g) (sym due.1) (recalled (note_due n past)))))
  balanced (Rolled number) e m = in_none (Rolled number) (none_of r.name (and_parts _ _ (and_parts _ _ (and_parts _ _ (and_parts _ _ m).0).0).1).0)
  balanced (Epoch number standing) e m = absurd (cc)
  balanced Offered e m = absurd (cc)
  balanced (Settled x) e m = absurd (cc)
  balanced SettledNack e m = absurd (cc)
  balanced Dropped e m = absurd (cc)
  balanced PingDone e m = absurd (cc)
  balanced (Leased x) e m = absurd (cc)
  balanced Drained e m = absurd (cc)
  balanced InitAsked e m = absurd (cc)
  balanced Discarding e m = absurd (cc)
  balanced Clock e m = absurd (cc)
  balanced Retired e m = absurd (cc)
  balanced PingSent e m = absurd (cc)
  balanced LostOne e m = absurd (cc)

-- a word behind a record
abbrev word : (sealed : Bool) → (RecordKind → Bool → Bool) → Record → Name → List Record → Bool
word sealed step r n old = if sealed then false else after step r.kind (is_named n r.name) (since step n old)

-- an Epoch record bears no name
epoch_unnamed : (c : DownSession) (past : List Record) (r : Record) (k : RecordKind) → is_epoch k ≡ true → may_follow c past r k ≡ true → r.name ≡ None
epoch_unnamed c past r (Epoch number (Down fresh drain dispatches)) e m = none_of r.name (and_parts _ _ (and_parts _ _ (and_parts _ _ (and_parts _ _ m).0).0).1).0
epoch_unnamed c past r (Epoch number (Up init drained retired ping leased lapse)) e m = absurd (cc)
epoch_unnamed c past r _ e m = absurd (cc)

up_epoch_unnamed : (s : UpSession) (past : List Record) (r : Record) (k : RecordKind) → is_epoch k ≡ true → may_follow_up s past r k ≡ true → r.name ≡ None
up_epoch_unnamed s past r (Epoch number (Up init drained retired ping leased lapse)) e m = none_of r.name (and_parts _ _ (and_parts _ _ (and_parts _ _ (and_parts _ _ m).0).0).1).0
up_epoch_unnamed s past r (Epoch number (Down fresh drain dispatches)) e m = absurd (cc)
up_epoch_unnamed s past r _ e m = absurd (cc)

module _ (limits : Bounds) (b : ℕ) (mode : InitMode) (k : ℕ) (n : Name) where
  abbrev client : DownSession
  client = record { limits = limits; boot = b; number = k }

  abbrev Within : List Record → Type 0
  Within rs =
      occurs any n rs + owed (note_due n rs) (answer_due n rs) (gave_recall n rs)
      ≤ 4 * occurs is_took n rs + occurs answers n rs + 2 * occurs is_retried n rs

  client_within : (rs : List Record) → are_histories limits b mode (Client k) (epochs rs) ≡ true → Within rs
  client_within [] h = omega arith
  client_within (r ∷ old) h =
      (let a = each_epoch limits b mode (Client k) r old h in by_epoch (is_epoch r.kind) refl (and_parts _ _ (and_parts _ _ a.0).0).0 (client_within old a.1))
    where
      by_epoch : (x : Bool) → is_epoch r.kind ≡ x → may_follow client (if x then [] else present old) r r.kind ≡ true → Within old →
          (one_if (any r.kind && is_named n r.name) + occurs any n old) + owed (word x note_kind r n old) (word x answer_kind r n old) (word x recall_kind r n old)
          ≤ 4 * (one_if (is_took r.kind && is_named n r.name) + occurs is_took n old) + (one_if (answers r.kind && is_named n r.name) + occurs answers n old) + 2 * (one_if (is_retried r.kind && is_named n r.name) + occurs is_retried n old)
      by_epoch true e m rest = omega (arith, rest, ap (λ o. one_if (is_named n o)) (epoch_unnamed client [] r r.kind e m))
      by_epoch false e m rest =
          let now = subst (λ d. Balanced r.kind (is_named n r.name) d (answer_due n old) (gave_recall n old)) (since_present note_kind n old)
          (subst (λ a. Balanced r.kind (is_named n r.name) (note_due n (present old)) a (gave_recall n old)) (since_present answer_kind n old)
          (subst (λ g. Balanced r.kind (is_named n r.name) (note_due n (present old)) (answer_due n (present old)) g) (since_present recall_kind n old) (balanced client (present old) r n r.kind e m))) in
          omega (arith, rest, now)

-- A SERVER'S LIST: how many discards of a name may still be sent

abbrev recallable : Name → List Sending → ℕ
recallable n [] = 0
recallable n (s ∷ ss) = one_if (is_named n s.name && not s.recalled) + recallable n ss

module _ (n : Name) where
  less_off : (t : ℕ) (ss : List Sending) → recallable n (off_tag t ss) ≤ recallable n ss
  less_off t [] = omega arith
  less_off t (s ∷ ss) = by_test (s.tag == t) (less_off t ss)
    where
      by_test : (b : Bool) → recallable n (off_tag t ss) ≤ recallable n ss → recallable n (if b then off_tag t ss else s ∷ off_tag t ss) ≤ one_if (is_named n s.name && not s.recalled) + recallable n ss
      by_test true h = omega (arith, h)
      by_test false h = omega (arith, h)

  none_recalled : (o : Option Name) → one_if (is_named n o && not true) ≡ 0
  none_recalled o = by_test (is_named n o)
    where
      by_test : (b : Bool) → one_if (b && not true) ≡ 0
      by_test true = refl
      by_test false = refl

  less_recalled : (t : ℕ) (ss : List Sending) → recallable n (recalled_on t ss) ≤ recallable n ss
  less_recalled t [] = omega arith
  less_recalled t (s ∷ ss) = by_test (s.tag == t) (less_recalled t ss)
    where
      by_test : (b : Bool) → recallable n (recalled_on t ss) ≤ recallable n ss → recallable n ((if b then record s { recalled = true } else s) ∷ recalled_on t ss) ≤ one_if (is_named n s.name && not s.recalled) + recallable n ss
      by_test true h = omega (arith, h, none_recalled s.name)
      by_test false h = omega (arith, h)

  one_recalled : (t : ℕ) (ss : List Sending) → is_recallable n (sending_on t ss) ≡ true → recallable n (recalled_on t ss) + 1 ≤ recallable n ss
  one_recalled t [] is = absurd (cc)
  one_recalled t (s ∷ ss) is = by_test (s.tag == t) is (one_recalled t ss)
    where
      by_test : (b : Bool) → is_recallable n (if b then Some s else sending_on t ss) ≡ true → (is_recallable n (sending_on t ss) ≡ true → recallable n (recalled_on t ss) + 1 ≤ recallable n ss) →
          recallable n ((if b then record s { recalled = true } else s) ∷ recalled_on t ss) + 1 ≤ one_if (is_named n s.name && not s.recalled) + recallable n ss
      by_test true is rest = omega (arith, less_recalled t ss, none_recalled s.name, ap one_if is)
      by_test false is rest = omega (arith, rest is)

  abbrev UpBalanced : Record → RecordKind → List Sending → Type 0
  UpBalanced r k ss =
      one_if (is_named n r.name) + recallable n (sendings_after r k ss)
      ≤ 2 * one_if (is_offered k && is_named n r.name) + one_if (is_replied k && is_named n r.name) + one_if (is_lost_one k && is_named n r.name) + recallable n ss

  module _ (s : UpSession) (past : List Record) (r : Record) where
    still : (ss : List Sending) → r.name ≡ None → one_if (is_named n r.name) + recallable n ss ≤ recallable n ss
    still ss e = omega (arith, ap (λ o. one_if (is_named n o)) e)

    offering : one_if (is_named n r.name && not false) ≤ one_if (is_named n r.name)
    offering = by_test (is_named n r.name)
      where
        by_test : (b : Bool) → one_if (b && not false) ≤ one_if b
        by_test true = omega arith
        by_test false = omega arith

    discarding : of_named (λ m. is_recallable m (sending_on r.tag (sendings past))) r.name ≡ true → one_if (is_named n r.name) + recallable n (recalled_on r.tag (sendings past)) ≤ recallable n (sendings past)
    discarding h = by_test (is_named n r.name) refl
      where
        by_test : (is : Bool) → is_named n r.name ≡ is → one_if is + recallable n (recalled_on r.tag (sendings past)) ≤ recallable n (sendings past)
        by_test false e = omega (arith, less_recalled r.tag (sendings past))
        by_test true e =
            omega (arith, one_recalled r.tag (sendings past) (sym (ap (of_named (λ m. is_recallable m (sending_on r.tag (sendings past)))) (named n r.name e)) ∙ h))

    up_balanced : (k : RecordKind) → is_epoch k ≡ false → may_follow_up s past r k ≡ true → UpBalanced r k (sendings past)
    up_balanced Offered e m = omega (arith, offering)
    up_balanced (Settled x) e m = omega (arith, less_off r.tag (sendings past))
    up_balanced SettledNack e m = omega (arith, less_off r.tag (sendings past))
    up_balanced LostOne e m = omega (arith, less_off r.tag (sendings past))
    up_balanced Discarding e m = omega (arith, discarding (and_parts _ _ m).1)
    up_balanced Dropped e m = omega (arith, still (sendings past) (none_of r.name (and_parts _ _ m).1))
    up_balanced Ignored e m = omega (arith, still (sendings past) (none_of r.name (and_parts _ _ m).1))
    up_balanced Ponged e m = omega (arith, still (sendings past) (none_of r.name (and_parts _ _ m).1))
    up_balanced Unsupported e m = omega (arith, still (sendings past) (none_of r.name (and_parts _ _ (and_parts _ _ m).0).1))
    up_balanced (Leased x) e m = omega (arith, still (sendings past) (none_of r.name (and_parts _ _ m).1))
    up_balanced Drained e m = omega (arith, still (sendings past) (none_of r.name (and_parts _ _ m).1))
    up_balanced InitAsked e m = omega (arith, still (sendings past) (none_of r.name (and_parts _ _ (and_parts _ _ (and_parts _ _ m).0).1).0))
    up_balanced InitDone e m = omega (arith, still (sendings past) (none_of r.name (and_parts _ _ (and_parts _ _ (and_parts _ _ m).0).1).0))
    up_balanced PingDone e m = omega (arith, still (sendings past) (none_of r.name (and_parts _ _ (and_parts _ _ (and_parts _ _ (and_parts _ _ m).0).0).1).0))
    up_balanced PingSent e m = omega (arith, still (sendings past) (none_of r.name (and_parts _ _ (and_parts _ _ (and_parts _ _ (and_parts _ _ m).0).0).1).0))
    up_balanced Clock e m = omega (arith, still (sendings past) (none_of r.name (and_parts _ _ (and_parts _ _ m).1).0))
    up_balanced Retired e m = omega (arith, still (sendings past) (none_of r.name (and_parts _ _ (and_parts _ _ m).1).0))
    up_balanced (Closed x) e m = omega (arith, still (sendings past) (none_of r.name (and_parts _ _ (and_parts _ _ (and_parts _ _ m).0).1).0))
    up_balanced Lost e m = omega (arith, still (sendings past) (none_of r.name (and_parts _ _ (and_parts _ _ m).1).0))
    up_balanced (Rolled number) e m = omega (arith, still (sendings past) (none_of r.name (and_parts _ _ (and_parts _ _ (and_parts _ _ (and_parts _ _ m).0).0).1).0))
    up_balanced (Epoch number standing) e m = absurd (cc)
    up_balanced Took e m = absurd (cc)
    up_balanced TookDrained e m = absurd (cc)
    up_balanced (Discarded x) e m = absurd (cc)
    up_balanced Echoed e m = absurd (cc)
    up_balanced OutOfPlace e m = absurd (cc)
    up_balanced DrainAcked e m = absurd (cc)
    up_balanced (Noted x) e m = absurd (cc)
    up_balanced Passed e m = absurd (cc)
    up_balanced Retried e m = absurd (cc)
    up_balanced Nacked e m = absurd (cc)
    up_balanced Unrouted e m = absurd (cc)
    up_balanced Failed e m = absurd (cc)
    up_balanced (Late x) e m = absurd (cc)
    up_balanced DrainAsked e m = absurd (cc)
    up_balanced Recalled e m = absurd (cc)

  sealed : (r : Record) (k : RecordKind) (ss : List Sending) → is_epoch k ≡ true → r.name ≡ None → UpBalanced r k ss
  sealed r (Epoch number standing) ss e none = omega (arith, ap (λ o. one_if (is_named n o)) none)
  sealed r _ ss e none = absurd (cc)

  server_within : (limits : Bounds) (b : ℕ) (mode : InitMode) (k : ℕ) (rs : List Record) → are_histories limits b mode (Server k) (epochs rs) ≡ true →
      occurs any n rs + recallable n (sendings rs) ≤ 2 * occurs is_offered n rs + occurs is_replied n rs + occurs is_lost_one n rs
  server_within limits b mode k [] h = omega arith
  server_within limits b mode k (r ∷ old) h =
      (let a = each_epoch limits b mode (Server k) r old h in omega (arith, by_epoch (is_epoch r.kind) refl (and_parts _ _ (and_parts _ _ a.0).0).0, server_within limits b mode k old a.1))
    where
      by_epoch : (x : Bool) → is_epoch r.kind ≡ x → may_follow_up (record { limits = limits; number = k; mode = mode }) (if x then [] else present old) r r.kind ≡ true → UpBalanced r r.kind (sendings old)
      by_epoch true e m = sealed r r.kind (sendings old) e (up_epoch_unnamed (record { limits = limits; number = k; mode = mode }) [] r r.kind e m)
      by_epoch false e m = subst (UpBalanced r r.kind) (sendings_present old) (up_balanced (record { limits = limits; number = k; mode = mode }) (present old) r r.kind e m)

-- EACH LIST, AND ALL

abbrev IsFew : Name → Line → Type 0
IsFew n l =
    occurs any n (records l.steps)
    ≤ 4 * occurs is_took n (records l.steps) + occurs answers n (records l.steps) + 2 * occurs is_retried n (records l.steps) + 3 * occurs is_offered n (records l.steps)

took_gives : (n : Name) (rs : List Record) → occurs is_took n rs ≤ occurs gives_name n rs
took_gives n [] = omega arith
took_gives n (r ∷ rs) = omega (arith, by_kind r.kind, took_gives n rs)
  where
    by_kind : (k : RecordKind) → one_if (is_took k && is_named n r.name) ≤ one_if (gives_name k && is_named n r.name)
    by_kind Took = omega arith
    by_kind _ = omega arith

lines_few : (n : Name) (ls : List Line) → EachLine (IsFew n) ls → count any n ls ≤ 4 * count gives_name n ls + count answers n ls + 2 * count is_retried n ls + 3 * count is_offered n ls
lines_few n [] h = omega arith
lines_few n (l ∷ ls) h = omega (arith, h.0, took_gives n (records l.steps), lines_few n ls h.1)

list_few : (n : Name) (limits : Bounds) (b : ℕ) (mode : InitMode) (id : SessionId) (rs : List Record) → are_histories limits b mode id (epochs rs) ≡ true →
    occurs any n rs ≤ 4 * occurs is_took n rs + occurs answers n rs + 2 * occurs is_retried n rs + 3 * occurs is_offered n rs
list_few n limits b mode (Client k) rs h = omega (arith, client_within limits b mode k n rs h)
list_few n limits b mode (Server k) rs h = omega (arith, server_within n limits b mode k rs h, server_balance n limits b mode k rs h)

connections_few : (n : Name) (limits : Bounds) (cs : List Connection) → EachConnection (λ c. is_joined limits c.boot c.mode c.session (records c.steps) ≡ true) cs → EachLine (IsFew n) (lines cs)
connections_few n limits [] h = tt
connections_few n limits (c ∷ cs) h = (list_few n limits c.boot c.mode c.session (records c.steps) (and_parts _ _ h.0).0, connections_few n limits cs h.1)

pub map_stops : (P Q : Stop → Type 0) → ((s : Stop) → P s → Q s) → (ss : List Stop) → EveryStop P ss → EveryStop Q ss
map_stops P Q go [] h = tt
map_stops P Q go (s ∷ ss) h = (go s h.0, map_stops P Q go ss h.1)

pub named_few : (limits : Bounds) (boot : ℕ) (events : List (ℕ × Event)) → InRange limits → AllChooseFree (start limits boot) events → (b : ℕ) →
    (n : Name) → times any n (all_records (histories_of limits boot events b)) ≤ 23
named_few limits boot events range free b n =
    let w = run (start limits boot) events in
    let ls = lines w.connections in
    let ms = of_boot b ls in
    let hs = map history_of ms in
    let r : Reached w = run_reached (start limits boot) events free (starts limits boot) in
    let v : Keeps w = reached_keeps r in
    let borne = every_stop (IsFaultless (client_records hs) (all_records hs)) (stops [] hs) (runs_bear_out limits boot events free b) in
    let new = map_stops (IsFaultless (client_records hs) (all_records hs)) (IsNew answers) (λ s f. f.answered_once) (stops [] hs) borne in
    let answered = once answers n hs new in
    let few = lines_few n ms (each_of_boot (IsFew n) (IsFew n) b (λ l e f. f) ls (connections_few n limits w.connections (records_follow limits boot events free))) in
    let tries = never_often r n in
    let same = limits_kept (start limits boot) events in
    let given = gifts_opened n ls v.own in
    let one = v.unique n.boot (Client n.client) in
    let sent = v.linear n in
    omega (
      arith,
      few,
      answered,
      tries,
      ap (λ (l : Bounds). l.retries) same,
      range.retries_below,
      given,
      one,
      sent,
      times_occurs any n (all_records hs),
      total_all any n ms,
      total_all answers n ms,
      boot_most gives_name n b ls,
      boot_most is_retried n b ls,
      boot_most is_offered n b ls,
      total_count gives_name n ls,
      total_count is_retried n ls,
      total_count is_offered n ls,
    )
