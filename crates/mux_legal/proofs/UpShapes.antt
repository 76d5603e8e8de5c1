-- The steps of a server's session, each with what led to it: what holds of each of them holds of every step.
use Rattle.std.proofs.Common.{length, ℕ, pos, negsuc, List, [], ◌∷◌, ◌+◌, ◌*◌, ◌≡◌, ◌&&◌, ◌||◌, Bool, true, false, not, Option, Some, None, Result, Ok, Err, refl, sym, ◌∙◌, ap, max}
use Rattle.std.specs.Prelude.{if◌then◌else◌, ◌==◌, nat_le, nat_lt, sum_by}
use Rattle.std.proofs.lemmas.Bool.{and_parts}
use Rattle.mux_frame.specs.Spelling.{MuxFrame}
use Rattle.mux_message.specs.Kinds.{kind_of, is_final}
use Rattle.mux_message.specs.Content.{Content, tdispatch, rdispatch, tdrain, rdrain, tdiscarded, rdiscarded, tlease, tinit, rinit, tping, rping, treq, rreq, rerr, other}
use Rattle.mux_message.specs.Parts.{kind_in}
use Rattle.mux_message.specs.Reading.{message_of}
use Rattle.mux_message.specs.declared.fault.MessageFault.{MessageFault}
use Rattle.mux_message.specs.declared.fault.MessageFault.TheVariants as faults
use Rattle.mux_history.specs.declared.name.Name.{Name}
use Rattle.mux_history.specs.declared.kind.RecordKind.TheVariants.{Offered, Discarding, Clock, Retired, PingSent, Lost, LostOne}
use Rattle.mux_history.specs.declared.session.SessionId.TheVariants.{Server}
use Rattle.mux_history.specs.Lapse.{granted}
use Rattle.mux_history.specs.declared.session.InitState.{InitState}
use Rattle.mux_history.specs.declared.session.InitState.TheVariants.{Probing, Asked, Open}
use Rattle.mux_history.specs.Standings.{up_standing}
use Rattle.mux_history.specs.Readings.{has_ended, reading, stands, is_retiring, ping_outstanding, is_open as is_ready, Sending, sendings, sending_on, least, epoch_of}
use Rattle.mux_model.specs.Entries.{Exchange}
use Rattle.mux_model.specs.Tags.{Holder, holder}
use Rattle.mux_message.specs.Made.{is_probe, tping_on, tdiscarded_for, retag}
use Rattle.mux_model.specs.Steps.{Held, PlacedAt, Call, FrameCall, NoteCall, SettleCall, NackCall, UnrouteCall, FailCall, DrainCall, OfferCall, RecallCall, ClockCall, PingCall, RetireCall, LoseCall, LoseNextCall, SealCall, ProbeCall, Step, entries, records, IsClosed, IsBusy, IsSpent, NotOpen, IsDrained, IsRetired, IsLapsed, IsFull, Outstanding, NotQuiet, NotFull, LastEpoch, NoRoom, RollCall, Outcome, Refused, Unrecorded, Recorded, entry_of, sealing, rolling, last_epoch, queued, cause_of, lease_in}
use Rattle.mux_model.specs.Replay.{is_fault}
use Rattle.mux_model.specs.Up.{UpSession, Reaction, Shut, Full, Short, Closes, Settles, Ignores, Unsupports, AsksInit, EndsInit, EndsPing, Drops, Leases, asks_other, leases, on_rerr, on_rinit, by_content, with_holder, held_for, copy_on, by_message, reacted, is_recallable, next_lost, lost_of, up, MayChoose, is_drained, is_lapsed, init_of, free_out, free_records, kept_for, Pongs, Drains}
use Rattle.mux_model.specs.Legal.{Line}
use Rattle.mux_legal.proofs.Basics.{OnRecorded, if_both, not_false}
use Rattle.mux_legal.proofs.Contents.{message_says}
use Rattle.mux_legal.proofs.DownShapes.{CallBorne, neither}

-- what a reaction says of the frame and of the session
abbrev pub LedTo : UpSession → List Step → MuxFrame → Reaction → Type 0
LedTo s past f Shut = Unit {0}
LedTo s past f Full = Unit {0}
LedTo s past f Short = Unit {0}
LedTo s past f (Closes cause) = is_fault cause ≡ true
LedTo s past f (Settles n again) =
    (lease_in (message_of f) ≡ None) × (is_final (kind_of f.kind) ≡ true) × ((h : Holder) × (holder (Server s.number) f.tag (entries past) ≡ Some h) × (h.name ≡ n))
    × (copy_on f.tag past ≡ again)
LedTo s past f (Leases ms) = (lease_in (message_of f) ≡ Some ms) × ((free_records s past == 0) ≡ false)
LedTo s past f Unsupports = (lease_in (message_of f) ≡ None) × ((free_records s past == 0) ≡ false) × ((f.tag == 0) ≡ false)
LedTo s past f AsksInit = (lease_in (message_of f) ≡ None) × ((free_records s past == 0) ≡ false) × ((f.tag == 1) ≡ true) × (init_of s (records past) ≡ Probing)
LedTo s past f EndsInit = (lease_in (message_of f) ≡ None) × ((free_records s past == 0) ≡ false) × ((f.tag == 1) ≡ true) × (is_ready (init_of s (records past)) ≡ false)
LedTo s past f EndsPing =
    (lease_in (message_of f) ≡ None) × ((free_records s past == 0) ≡ false) × ((f.tag == 1) ≡ true) × (is_ready (init_of s (records past)) ≡ true)
    × (ping_outstanding (records past) ≡ true)
LedTo s past f _ = (lease_in (message_of f) ≡ None) × ((free_records s past == 0) ≡ false)

module _ (s : UpSession) (past : List Step) (f : MuxFrame) where
  abbrev L : Reaction → Type 0
  L r = LedTo s past f r

  module _ (room : (free_records s past == 0) ≡ false) where
    asks_led : lease_in (message_of f) ≡ None → L (asks_other f.tag)
    asks_led none = if_both L (f.tag == 0) Ignores Unsupports (λ _. (none, room)) (λ t. (none, room, t))

    leases_led : (o : Option ℕ) → lease_in (message_of f) ≡ o → L (leases o)
    leases_led None e = (e, room)
    leases_led (Some ms) e = (e, room)

    rerr_led : lease_in (message_of f) ≡ None → (i : InitState) (ping : Bool) (why : List ℕ) → init_of s (records past) ≡ i → ping_outstanding (records past) ≡ ping → L (on_rerr i ping f.tag why)
    rerr_led none Probing ping why i p =
        if_both L (f.tag == 1) (if is_probe f.tag why then AsksInit else EndsInit) Drops
        (λ t. if_both L (is_probe f.tag why) AsksInit EndsInit (λ _. (none, room, t, i)) (λ _. (none, room, t, ap is_ready i))) (λ _. (none, room))
    rerr_led none Asked ping why i p = if_both L (f.tag == 1) EndsInit Drops (λ t. (none, room, t, ap is_ready i)) (λ _. (none, room))
    rerr_led none Open ping why i p =
        if_both L (f.tag == 1 && ping) EndsPing Drops (λ t. (none, room, (and_parts _ _ t).0, ap is_ready i, p ∙ (and_parts _ _ t).1)) (λ _. (none, room))

    rinit_led : lease_in (message_of f) ≡ None → (i : InitState) → init_of s (records past) ≡ i → L (on_rinit i f.tag)
    rinit_led none Asked i = if_both L (f.tag == 1) EndsInit Drops (λ t. (none, room, t, ap is_ready i)) (λ _. (none, room))
    rinit_led none Probing i = (none, room)
    rinit_led none Open i = (none, room)

    content_led : (m : Content) → message_of f ≡ Ok m → L (by_content s past f.tag m)
    content_led tping r = (ap lease_in r, room)
    content_led tdrain r = (ap lease_in r, room)
    content_led (tlease unit howmuch) r = leases_led (granted unit howmuch) (ap lease_in r)
    content_led (tdiscarded _ _) r = (ap lease_in r, room)
    content_led (treq _) r = asks_led (ap lease_in r)
    content_led (tdispatch _ _ _ _) r = asks_led (ap lease_in r)
    content_led (tinit _ _) r = asks_led (ap lease_in r)
    content_led (other (pos n) _) r = if_both L (n == 0) Drops (asks_other f.tag) (λ _. (ap lease_in r, room)) (λ _. asks_led (ap lease_in r))
    content_led (other (negsuc n) _) r = (ap lease_in r, room)
    content_led (rerr why) r = rerr_led (ap lease_in r) (init_of s (records past)) (ping_outstanding (records past)) why refl refl
    content_led (rinit _ _) r = rinit_led (ap lease_in r) (init_of s (records past)) refl
    content_led rping r =
        if_both L (is_ready (init_of s (records past)) && ping_outstanding (records past) && f.tag == 1) EndsPing Drops
        (λ t. (let a = and_parts _ _ t in let b = and_parts _ _ a.0 in (ap lease_in r, room, a.1, b.0, b.1))) (λ _. (ap lease_in r, room))
    content_led (rreq _) r = (ap lease_in r, room)
    content_led (rdispatch _ _ _) r = (ap lease_in r, room)
    content_led rdrain r = (ap lease_in r, room)
    content_led rdiscarded r = (ap lease_in r, room)

  final_led : (m : Content) → is_final (kind_in m) ≡ true → message_of f ≡ Ok m → lease_in (message_of f) ≡ None
  final_led (rdispatch _ _ _) e r = ap lease_in r
  final_led rdiscarded e r = ap lease_in r
  final_led (rerr _) e r = ap lease_in r
  final_led tping e r = ap lease_in r
  final_led tdrain e r = ap lease_in r
  final_led (tlease unit howmuch) e r = absurd (cc)
  final_led (tdiscarded _ _) e r = ap lease_in r
  final_led (treq _) e r = ap lease_in r
  final_led (tdispatch _ _ _ _) e r = ap lease_in r
  final_led (tinit _ _) e r = ap lease_in r
  final_led (other _ _) e r = ap lease_in r
  final_led (rinit _ _) e r = ap lease_in r
  final_led rping e r = ap lease_in r
  final_led (rreq _) e r = ap lease_in r
  final_led rdrain e r = ap lease_in r

  holder_led : (out : ℕ) (m : Content) → message_of f ≡ Ok m → kind_in m ≡ kind_of f.kind → (o : Option Holder) → held_for s past f.tag m ≡ o → L (with_holder s past out f.tag m o)
  holder_led out m r k None e =
      if_both L (free_out s past out == 0) Full (if free_records s past == 0 then Short else by_content s past f.tag m) (λ _. tt) (λ _.
      if_both L (free_records s past == 0) Short (by_content s past f.tag m) (λ _. tt) (λ room. content_led room m r))
  holder_led out m r k (Some h) e = (let held = by_test (is_final (kind_in m)) e in (final_led m held.0 r, sym (ap is_final k) ∙ held.0, (h, held.1, refl), refl))
    where
      by_test : (t : Bool) → (if t then holder (Server s.number) f.tag (entries past) else None) ≡ Some h → (t ≡ true) × (holder (Server s.number) f.tag (entries past) ≡ Some h)
      by_test true g = (refl, g)
      by_test false g = absurd (cc)

  fault_led : (fault : MessageFault) → is_fault (cause_of fault) ≡ true
  fault_led faults.Fragment = refl
  fault_led (faults.BadBody place) = refl

  pub message_led : (out : ℕ) (o : Result Content MessageFault) → message_of f ≡ o → L (by_message s past out f.tag o)
  message_led out (Err fault) r = fault_led fault
  message_led out (Ok m) r = holder_led out m r (message_says f m r).0 (held_for s past f.tag m) refl

-- what a frame that settles nothing leaves: no entry holds its tag, if it is a final reply
abbrev pub StrayOf : UpSession → List Step → MuxFrame → Reaction → Type 0
StrayOf s past f (Settles n again) = Unit {0}
StrayOf s past f (Closes cause) = Unit {0}
StrayOf s past f _ = is_final (kind_of f.kind) ≡ true → holder (Server s.number) f.tag (entries past) ≡ None

module _ (s : UpSession) (past : List Step) (f : MuxFrame) where
  abbrev here : Option Holder
  here = holder (Server s.number) f.tag (entries past)

  any_stray : (is_final (kind_of f.kind) ≡ true → here ≡ None) → (r : Reaction) → StrayOf s past f r
  any_stray h Shut = h
  any_stray h Full = h
  any_stray h Short = h
  any_stray h (Closes cause) = tt
  any_stray h (Settles n again) = tt
  any_stray h Pongs = h
  any_stray h Drains = h
  any_stray h Ignores = h
  any_stray h Unsupports = h
  any_stray h AsksInit = h
  any_stray h EndsInit = h
  any_stray h EndsPing = h
  any_stray h Drops = h
  any_stray h (Leases ms) = h

  pub stray_of : (out : ℕ) (o : Result Content MessageFault) → message_of f ≡ o → StrayOf s past f (by_message s past out f.tag o)
  stray_of out (Err fault) r = tt
  stray_of out (Ok m) r = by_holder (held_for s past f.tag m) refl
    where
      by_holder : (o : Option Holder) → held_for s past f.tag m ≡ o → StrayOf s past f (with_holder s past out f.tag m o)
      by_holder None e = any_stray (λ final. sym (ap (λ b. if b then here else None) (ap is_final (message_says f m r).0 ∙ final)) ∙ e) (with_holder s past out f.tag m None)
      by_holder (Some h) e = tt

module _ (ls : List Line) (s : UpSession) (past : List Step) (Q : Call → Exchange → List Held → Type 0) where
  abbrev On : Call → Outcome → Type 0
  On call o = OnRecorded o (Q call)

  -- each step with a record, by what led to it
  pub up_shapes :
      ((f : MuxFrame) (now : ℕ) → has_ended (records past) ≡ false → (r : Reaction) → LedTo s past f r → StrayOf s past f r → On (FrameCall f now) (reacted s past f now r)) →
      ((t : ℕ) (n : Name) (f : MuxFrame) (left now : ℕ) → MayChoose s past t (OfferCall n f left now) → CallBorne ls (OfferCall n f left now) → has_ended (records past) ≡ false → is_ready (init_of s (records past)) ≡ true →
      is_drained (entries past) ≡ false → stands is_retiring (records past) ≡ false → is_lapsed (entries past) (max (reading (records past)) now) ≡ false →
      nat_le s.limits.window (length (sendings (records past))) ≡ false → nat_lt (free_records s past) 3 ≡ false →
      Q (OfferCall n f left now) (entry_of (records past) now Offered t (Some n) None (Some (retag t f))) (PlacedAt n s.number t ∷ [])) →
      ((n : Name) (tag : ℕ) (why : List ℕ) (now : ℕ) → has_ended (records past) ≡ false → is_recallable n (sending_on tag (sendings (records past))) ≡ true →
      Q (RecallCall n tag why now) (entry_of (records past) now Discarding tag (Some n) None (Some (tdiscarded_for tag why))) []) →
      ((now : ℕ) → has_ended (records past) ≡ false → (free_records s past == 0) ≡ false → Q (ClockCall now) (entry_of (records past) now Clock 0 None None None) []) →
      ((now : ℕ) → has_ended (records past) ≡ false → (free_records s past == 0) ≡ false → Q (RetireCall now) (entry_of (records past) now Retired 0 None None None) []) →
      ((now : ℕ) → has_ended (records past) ≡ false → is_ready (init_of s (records past)) ≡ true → ping_outstanding (records past) ≡ false → (free_records s past == 0) ≡ false →
      Q (PingCall now) (entry_of (records past) now PingSent 1 None None (Some (tping_on 1))) []) →
      ((now : ℕ) → has_ended (records past) ≡ false → Q (LoseCall now) (entry_of (records past) now Lost 0 None None None) []) →
      ((e : Sending) → has_ended (records past) ≡ true → least (sendings (records past)) ≡ Some e →
      Q LoseNextCall (entry_of (records past) 0 LostOne e.tag e.name None None) (lost_of e.name)) →
      (has_ended (records past) ≡ false → nat_lt 0 (length (sendings (records past))) ≡ false → (out : ℕ) → nat_lt 0 (queued (entries past) out) ≡ false →
      nat_lt s.limits.history (4 * free_records s past) ≡ false → nat_le last_epoch (epoch_of (records past)) ≡ false →
      Q SealCall (sealing (records past) (up_standing s.mode (records past))) []) →
      (has_ended (records past) ≡ false → nat_lt s.limits.history (2 * (length (sendings (records past)) + sum_by kept_for (sendings (records past)))) ≡ false →
      nat_le last_epoch (epoch_of (records past)) ≡ false → Q RollCall (rolling (records past)) []) →
      (out t : ℕ) (call : Call) → MayChoose s past t call → CallBorne ls call → On call (up s past out t call)
  up_shapes framed offered recalled clocked retired pinged lost told sealed rolled out t (FrameCall f now) may b =
      if_both (λ r. On (FrameCall f now) (reacted s past f now r)) (has_ended (records past)) Shut (by_message s past out f.tag (message_of f)) (λ _. tt)
      (λ going. framed f now going (by_message s past out f.tag (message_of f)) (message_led s past f out (message_of f) refl) (stray_of s past f out (message_of f) refl))
  up_shapes framed offered recalled clocked retired pinged lost told sealed rolled out t (OfferCall n f left now) may b =
      let last = Recorded (entry_of (records past) now Offered t (Some n) None (Some (retag t f))) (PlacedAt n s.number t ∷ []) in
      let c8 = if nat_lt (free_records s past) 3 then Refused IsSpent else last in
      let c7 = if nat_lt (free_out s past out) 2 then Refused IsFull else c8 in
      let c6 = if nat_le s.limits.window (length (sendings (records past))) then Refused IsFull else c7 in
      let c5 = if is_lapsed (entries past) (max (reading (records past)) now) then Refused IsLapsed else c6 in
      let c4 = if stands is_retiring (records past) then Refused IsRetired else c5 in
      let c3 = if is_drained (entries past) then Refused IsDrained else c4 in
      let c2 = if not (is_ready (init_of s (records past))) then Refused NotOpen else c3 in
      if_both (On (OfferCall n f left now)) (has_ended (records past)) (Refused IsClosed) c2 (λ _. tt) (λ going.
      if_both (On (OfferCall n f left now)) (not (is_ready (init_of s (records past)))) (Refused NotOpen) c3 (λ _. tt) (λ ready.
      if_both (On (OfferCall n f left now)) (is_drained (entries past)) (Refused IsDrained) c4 (λ _. tt) (λ undrained.
      if_both (On (OfferCall n f left now)) (stands is_retiring (records past)) (Refused IsRetired) c5 (λ _. tt) (λ unretired.
      if_both (On (OfferCall n f left now)) (is_lapsed (entries past) (max (reading (records past)) now)) (Refused IsLapsed) c6 (λ _. tt) (λ unlapsed.
      if_both (On (OfferCall n f left now)) (nat_le s.limits.window (length (sendings (records past)))) (Refused IsFull) c7 (λ _. tt) (λ window.
      if_both (On (OfferCall n f left now)) (nat_lt (free_out s past out) 2) (Refused IsFull) c8 (λ _. tt) (λ _.
      if_both (On (OfferCall n f left now)) (nat_lt (free_records s past) 3) (Refused IsSpent) last (λ _. tt) (λ room.
      offered t n f left now may b going (not_false (is_ready (init_of s (records past))) ready) undrained unretired unlapsed window room))))))))
  up_shapes framed offered recalled clocked retired pinged lost told sealed rolled out t (RecallCall n tag why now) may b =
      let here = is_recallable n (sending_on tag (sendings (records past))) in
      let last = Recorded (entry_of (records past) now Discarding tag (Some n) None (Some (tdiscarded_for tag why))) [] in
      if_both (On (RecallCall n tag why now)) (has_ended (records past)) Unrecorded (if here then last else Unrecorded) (λ _. tt) (λ going.
      if_both (On (RecallCall n tag why now)) here last Unrecorded (λ h. recalled n tag why now going h) (λ _. tt))
  up_shapes framed offered recalled clocked retired pinged lost told sealed rolled out t (ClockCall now) may b =
      let last = Recorded (entry_of (records past) now Clock 0 None None None) [] in
      if_both (On (ClockCall now)) (has_ended (records past)) (Refused IsClosed) (if free_records s past == 0 then Refused IsSpent else last) (λ _. tt) (λ going.
      if_both (On (ClockCall now)) (free_records s past == 0) (Refused IsSpent) last (λ _. tt) (λ room. clocked now going room))
  up_shapes framed offered recalled clocked retired pinged lost told sealed rolled out t (RetireCall now) may b =
      let last = Recorded (entry_of (records past) now Retired 0 None None None) [] in
      if_both (On (RetireCall now)) (has_ended (records past)) (Refused IsClosed) (if free_records s past == 0 then Refused IsSpent else last) (λ _. tt) (λ going.
      if_both (On (RetireCall now)) (free_records s past == 0) (Refused IsSpent) last (λ _. tt) (λ room. retired now going room))
  up_shapes framed offered recalled clocked retired pinged lost told sealed rolled out t (PingCall now) may b =
      let last = Recorded (entry_of (records past) now PingSent 1 None None (Some (tping_on 1))) [] in
      let c5 = if free_records s past == 0 then Refused IsSpent else last in
      let c4 = if free_out s past out == 0 then Refused IsBusy else c5 in
      let c3 = if ping_outstanding (records past) then Refused Outstanding else c4 in
      let c2 = if not (is_ready (init_of s (records past))) then Refused NotOpen else c3 in
      if_both (On (PingCall now)) (has_ended (records past)) (Refused IsClosed) c2 (λ _. tt) (λ going.
      if_both (On (PingCall now)) (not (is_ready (init_of s (records past)))) (Refused NotOpen) c3 (λ _. tt) (λ ready.
      if_both (On (PingCall now)) (ping_outstanding (records past)) (Refused Outstanding) c4 (λ _. tt) (λ none.
      if_both (On (PingCall now)) (free_out s past out == 0) (Refused IsBusy) c5 (λ _. tt) (λ _.
      if_both (On (PingCall now)) (free_records s past == 0) (Refused IsSpent) last (λ _. tt) (λ room. pinged now going (not_false (is_ready (init_of s (records past))) ready) none room)))))
  up_shapes framed offered recalled clocked retired pinged lost told sealed rolled out t (LoseCall now) may b =
      if_both (On (LoseCall now)) (has_ended (records past)) Unrecorded (Recorded (entry_of (records past) now Lost 0 None None None) []) (λ _. tt) (λ going. lost now going)
  up_shapes framed offered recalled clocked retired pinged lost told sealed rolled out t LoseNextCall may b =
      if_both (On LoseNextCall) (has_ended (records past)) (next_lost (records past) (least (sendings (records past)))) Unrecorded
      (λ over. by_least over (least (sendings (records past))) refl) (λ _. tt)
    where
      by_least : has_ended (records past) ≡ true → (o : Option Sending) → least (sendings (records past)) ≡ o → On LoseNextCall (next_lost (records past) o)
      by_least over None h = tt
      by_least over (Some e) h = told e over h
  up_shapes framed offered recalled clocked retired pinged lost told sealed rolled out t SealCall may b =
      let last = Recorded (sealing (records past) (up_standing s.mode (records past))) [] in
      let high = if nat_le last_epoch (epoch_of (records past)) then Refused LastEpoch else last in
      let low = if nat_lt s.limits.history (4 * free_records s past) then Refused NotFull else high in
      let busy = nat_lt 0 (length (sendings (records past))) || nat_lt 0 (queued (entries past) out) in
      if_both (On SealCall) (has_ended (records past)) (Refused IsClosed) (if busy then Refused NotQuiet else low) (λ _. tt) (λ going.
      if_both (On SealCall) busy (Refused NotQuiet) low (λ _. tt) (λ quiet.
      if_both (On SealCall) (nat_lt s.limits.history (4 * free_records s past)) (Refused NotFull) high (λ _. tt) (λ full.
      if_both (On SealCall) (nat_le last_epoch (epoch_of (records past))) (Refused LastEpoch) last (λ _. tt) (λ few.
      (let none = neither _ _ quiet in sealed going none.0 out none.1 full few)))))
  up_shapes framed offered recalled clocked retired pinged lost told sealed rolled out t RollCall may b =
      let last = Recorded (rolling (records past)) [] in
      let high = if nat_le last_epoch (epoch_of (records past)) then Refused LastEpoch else last in
      let held = nat_lt s.limits.history (2 * (length (sendings (records past)) + sum_by kept_for (sendings (records past)))) in
      if_both (On RollCall) (has_ended (records past)) (Refused IsClosed) (if held then Refused NoRoom else high) (λ _. tt) (λ going.
      if_both (On RollCall) held (Refused NoRoom) high (λ _. tt) (λ fits.
      if_both (On RollCall) (nat_le last_epoch (epoch_of (records past))) (Refused LastEpoch) last (λ _. tt) (λ few. rolled going fits few)))
  up_shapes framed offered recalled clocked retired pinged lost told sealed rolled out t (NoteCall n server tag) may b = tt
  up_shapes framed offered recalled clocked retired pinged lost told sealed rolled out t (SettleCall n reply again) may b = tt
  up_shapes framed offered recalled clocked retired pinged lost told sealed rolled out t (NackCall n) may b = tt
  up_shapes framed offered recalled clocked retired pinged lost told sealed rolled out t (UnrouteCall n) may b = tt
  up_shapes framed offered recalled clocked retired pinged lost told sealed rolled out t (FailCall n) may b = tt
  up_shapes framed offered recalled clocked retired pinged lost told sealed rolled out t DrainCall may b = tt
  up_shapes framed offered recalled clocked retired pinged lost told sealed rolled out t ProbeCall may b = tt
