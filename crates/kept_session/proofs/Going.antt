-- No step but a seal or a roll ends a history.
use Rattle.std.proofs.Common.{ℕ, ◌≡◌, ◌+◌, ◌*◌, ◌&&◌, ◌||◌, Bool, true, false, not, List, ◌∷◌, Option, None, Some, refl, ap, ◌⊎◌, inl, inr, max, length}
use Rattle.std.specs.Prelude.{if◌then◌else◌, ◌==◌, nat_le, nat_lt, sum_by, codes}
use Rattle.mux_frame.specs.Spelling.{MuxFrame}
use Rattle.mux_message.specs.Made.{nack_on, rerr_on, retag}
use Rattle.mux_message.specs.Spellings.{normal}
use Rattle.mux_history.specs.Readings.{is_cut, has_ended, reading, stands, is_open as is_ready, is_retiring, ping_outstanding, Sending, sendings, sending_on, least, epoch_of, note_due, answer_due, book, drain_of, is_running}
use Rattle.mux_history.specs.declared.name.Name.{Name}
use Rattle.mux_history.specs.declared.record.Record.{Record}
use Rattle.mux_history.specs.declared.kind.RecordKind.{RecordKind}
use Rattle.mux_history.specs.declared.kind.RecordKind.TheVariants.{Passed, Failed, Nacked, Unrouted}
use Rattle.mux_history.specs.declared.session.SessionId.TheVariants.{Client}
use Rattle.mux_model.specs.Entries.{Exchange}
use Rattle.mux_model.specs.Tags.{holder, name_held}
use Rattle.mux_model.specs.Steps.{Held, Call, FrameCall, NoteCall, SettleCall, NackCall, UnrouteCall, FailCall, DrainCall, OfferCall, RecallCall, ClockCall, PingCall, RetireCall, LoseCall, LoseNextCall, SealCall, RollCall, ProbeCall, Step, Outcome, Refusal, Refused, Unrecorded, Recorded, entries, records, with_record, last_epoch, queued, is_nack}
use Rattle.mux_model.specs.Down as downs
use Rattle.mux_model.specs.Down.{DownSession, down}
use Rattle.mux_model.specs.Up as ups
use Rattle.mux_model.specs.Up.{UpSession, up}
use Rattle.mux_legal.proofs.Basics.{OnRecorded}
use Rattle.client_session.proofs.Lists.{settling}

-- no record, or one that ends no history
abbrev pub EndsNone : Option Record → Type 0
EndsNone None = Unit {0}
EndsNone (Some r) = is_cut r.kind ≡ false

-- a record that ends a history, with the number of the next one
abbrev pub EndsOne : (past : List Record) → Option Record → Type 0
EndsOne past None = ⊥
EndsOne past (Some r) = (is_cut r.kind ≡ true) × (epoch_of (r ∷ past) ≡ epoch_of past + 1)

abbrev pub ends : Call → Bool
ends SealCall = true
ends RollCall = true
ends _ = false

-- a step's record, if it has one, ends no history, or it ends one
pub record Stays (o : Outcome) : Type 0 where
  pub none : OnRecorded o (λ e gives. EndsNone e.rec)

pub record Ends (past : List Record) (o : Outcome) : Type 0 where
  pub one : OnRecorded o (λ e gives. EndsOne past e.rec)

-- what holds of both branches holds of the choice
either : (Q : Outcome → Type 0) {x y : Outcome} (b : Bool) → Q x → Q y → Q (if b then x else y)
either Q true p q = p
either Q false p q = q

refused : (why : Refusal) → Stays (Refused why)
refused why = record { none = tt }

unrecorded : Stays Unrecorded
unrecorded = record { none = tt }

writes : (e : Exchange) (gives : List Held) → EndsNone e.rec → Stays (Recorded e gives)
writes e gives h = record { none = h }

refuses : (past : List Record) (why : Refusal) → Ends past (Refused why)
refuses past why = record { one = tt }

cuts : (past : List Record) (e : Exchange) (gives : List Held) → EndsOne past e.rec → Ends past (Recorded e gives)
cuts past e gives h = record { one = h }

module _ (s : UpSession) (past : List Step) where
  up_reacts : (f : MuxFrame) (now : ℕ) (r : ups.Reaction) → Stays (ups.reacted s past f now r)
  up_reacts f now ups.Shut = refused _
  up_reacts f now ups.Full = refused _
  up_reacts f now ups.Short = refused _
  up_reacts f now (ups.Closes cause) = writes _ _ refl
  up_reacts f now (ups.Settles n again) = writes _ _ (settling (λ (k : RecordKind). is_cut k ≡ false) refl (λ type. refl) f)
  up_reacts f now ups.Pongs = writes _ _ refl
  up_reacts f now ups.Drains = writes _ _ refl
  up_reacts f now (ups.Leases ms) = writes _ _ refl
  up_reacts f now ups.Ignores = writes _ _ refl
  up_reacts f now ups.Unsupports = writes _ _ refl
  up_reacts f now ups.AsksInit = writes _ _ refl
  up_reacts f now ups.EndsInit = writes _ _ refl
  up_reacts f now ups.EndsPing = writes _ _ refl
  up_reacts f now ups.Drops = writes _ _ refl

  next_lost : (o : Option Sending) → Stays (ups.next_lost (records past) o)
  next_lost None = unrecorded
  next_lost (Some e) = writes _ _ refl

  pub up_stays : (out t : ℕ) (call : Call) → ends call ≡ false → Stays (up s past out t call)
  up_stays out t (FrameCall f now) h = up_reacts f now (ups.reaction s past out f)
  up_stays out t (OfferCall n f left now) h =
      either Stays (has_ended (records past)) (refused _) (either Stays (not (is_ready (ups.init_of s (records past)))) (refused _)
      (either Stays (ups.is_drained (entries past)) (refused _) (either Stays (stands is_retiring (records past)) (refused _)
      (either Stays (ups.is_lapsed (entries past) (max (reading (records past)) now)) (refused _)
      (either Stays (nat_le s.limits.window (length (sendings (records past)))) (refused _)
      (either Stays (nat_lt (ups.free_out s past out) 2) (refused _) (either Stays (nat_lt (ups.free_records s past) 3) (refused _) (writes _ _ refl))))))))
  up_stays out t (RecallCall n tag why now) h =
      either Stays (has_ended (records past)) unrecorded
      (either Stays (ups.is_recallable n (sending_on tag (sendings (records past)))) (writes _ _ refl) unrecorded)
  up_stays out t (ClockCall now) h =
      either Stays (has_ended (records past)) (refused _) (either Stays (ups.free_records s past == 0) (refused _) (writes _ _ refl))
  up_stays out t (RetireCall now) h =
      either Stays (has_ended (records past)) (refused _) (either Stays (ups.free_records s past == 0) (refused _) (writes _ _ refl))
  up_stays out t (PingCall now) h =
      either Stays (has_ended (records past)) (refused _) (either Stays (not (is_ready (ups.init_of s (records past)))) (refused _)
      (either Stays (ping_outstanding (records past)) (refused _) (either Stays (ups.free_out s past out == 0) (refused _)
      (either Stays (ups.free_records s past == 0) (refused _) (writes _ _ refl)))))
  up_stays out t (LoseCall now) h = either Stays (has_ended (records past)) unrecorded (writes _ _ refl)
  up_stays out t LoseNextCall h = either Stays (has_ended (records past)) (next_lost (least (sendings (records past)))) unrecorded
  up_stays out t SealCall h = absurd (cc)
  up_stays out t RollCall h = absurd (cc)
  up_stays out t (NoteCall n server tag) h = refused _
  up_stays out t (SettleCall n reply again) h = refused _
  up_stays out t (NackCall n) h = refused _
  up_stays out t (UnrouteCall n) h = refused _
  up_stays out t (FailCall n) h = refused _
  up_stays out t DrainCall h = refused _
  up_stays out t ProbeCall h = refused _

  pub seal_ends : (out t : ℕ) → Ends (records past) (up s past out t SealCall)
  seal_ends out t =
      either (Ends (records past)) (has_ended (records past)) (refuses (records past) _)
      (either (Ends (records past)) (nat_lt 0 (length (sendings (records past))) || nat_lt 0 (queued (entries past) out)) (refuses (records past) _)
      (either (Ends (records past)) (nat_lt s.limits.history (4 * ups.free_records s past)) (refuses (records past) _)
      (either (Ends (records past)) (nat_le last_epoch (epoch_of (records past))) (refuses (records past) _) (cuts (records past) _ _ (refl, refl)))))

  pub roll_ends : (out t : ℕ) → Ends (records past) (up s past out t RollCall)
  roll_ends out t =
      either (Ends (records past)) (has_ended (records past)) (refuses (records past) _)
      (either (Ends (records past)) (nat_lt s.limits.history (2 * (length (sendings (records past)) + sum_by ups.kept_for (sendings (records past))))) (refuses (records past) _)
      (either (Ends (records past)) (nat_le last_epoch (epoch_of (records past))) (refuses (records past) _) (cuts (records past) _ _ (refl, refl))))

module _ (c : DownSession) (past : List Step) where
  discards : (now : ℕ) (f : MuxFrame) (t : ℕ) (why : List ℕ) (o : Option Name) → Stays (downs.discarded past now f t why o)
  discards now f t why None = writes _ _ refl
  discards now f t why (Some n) = writes _ _ refl

  pub down_reacts : (f : MuxFrame) (now : ℕ) (r : downs.Reaction) → Stays (downs.reacted c past f now r)
  down_reacts f now downs.Shut = refused _
  down_reacts f now downs.Full = refused _
  down_reacts f now downs.Short = refused _
  down_reacts f now (downs.Closes cause) = writes _ _ refl
  down_reacts f now downs.NacksDrained = writes _ _ refl
  down_reacts f now downs.Takes = writes _ _ refl
  down_reacts f now (downs.Discards t why) = discards now f t why (name_held (holder (Client c.number) t (entries past)))
  down_reacts f now downs.Pongs = writes _ _ refl
  down_reacts f now downs.Inits = writes _ _ refl
  down_reacts f now downs.Misplaced = writes _ _ refl
  down_reacts f now downs.Unsupports = writes _ _ refl
  down_reacts f now downs.Echoes = writes _ _ refl
  down_reacts f now downs.Acks = writes _ _ refl
  down_reacts f now downs.Ignores = writes _ _ refl

  -- an answer of this kind, or one that is late
  answers : (n : Name) (kind : RecordKind) (whole : Bool) (reply : ℕ → MuxFrame) → is_cut kind ≡ false → Stays (downs.answer c past n kind whole reply)
  answers n kind whole reply h = either Stays (downs.is_held c n past) (writes _ _ h) (writes _ _ refl)

  settles : (n : Name) (reply : MuxFrame) (o : Option MuxFrame) → Stays (downs.settle c past n reply o)
  settles n reply None = answers n Passed false (λ t. retag t (normal reply)) refl
  settles n reply (Some f) =
      either Stays (is_nack reply && downs.is_held c n past && not (note_due n (records past)) && nat_lt 0 (downs.left_of c.limits n (records past)))
      (writes _ _ refl) (answers n Passed false (λ t. retag t (normal reply)) refl)

  recalls : (o : Option Name) → Stays (downs.next_recall c past o)
  recalls None = unrecorded
  recalls (Some n) = writes _ _ refl

  pub down_stays : (out : ℕ) (call : Call) → ends call ≡ false → Stays (down c past out call)
  down_stays out (FrameCall f now) h = down_reacts f now (downs.reaction c past out f)
  down_stays out (NoteCall n server tag) h =
      either Stays (downs.is_mine c n && note_due n (records past)) (writes _ _ refl) (refused _)
  down_stays out (SettleCall n reply again) h =
      either Stays (downs.is_mine c n && answer_due n (records past)) (settles n reply again) (refused _)
  down_stays out (FailCall n) h =
      either Stays (downs.is_mine c n && answer_due n (records past))
      (answers n Failed false (λ t. rerr_on t (codes "upstream lost")) refl) (refused _)
  down_stays out (NackCall n) h =
      either Stays (downs.is_mine c n && answer_due n (records past) && note_due n (records past)) (answers n Nacked true nack_on refl) (refused _)
  down_stays out (UnrouteCall n) h =
      either Stays (downs.is_mine c n && answer_due n (records past) && note_due n (records past))
      (answers n Unrouted true (λ t. rerr_on t (codes "no route")) refl) (refused _)
  down_stays out DrainCall h =
      either Stays (has_ended (records past)) (refused _) (either Stays (not (is_running (drain_of (records past)))) (refused _)
      (either Stays (downs.free_out c past out == 0) (refused _) (either Stays (downs.free_records c past == 0) (refused _) (writes _ _ refl))))
  down_stays out (LoseCall now) h = either Stays (has_ended (records past)) unrecorded (writes _ _ refl)
  down_stays out LoseNextCall h = either Stays (has_ended (records past)) (recalls (downs.next_recalled (records past))) unrecorded
  down_stays out SealCall h = absurd (cc)
  down_stays out RollCall h = absurd (cc)
  down_stays out (OfferCall n f left now) h = refused _
  down_stays out (RecallCall n tag why now) h = refused _
  down_stays out (ClockCall now) h = refused _
  down_stays out (PingCall now) h = refused _
  down_stays out (RetireCall now) h = refused _
  down_stays out ProbeCall h = refused _

  pub seal_ends_down : (out : ℕ) → Ends (records past) (down c past out SealCall)
  seal_ends_down out =
      either (Ends (records past)) (has_ended (records past)) (refuses (records past) _)
      (either (Ends (records past)) (nat_lt 0 (length (book (records past))) || nat_lt 0 (queued (entries past) out)) (refuses (records past) _)
      (either (Ends (records past)) (nat_lt c.limits.history (4 * downs.free_records c past)) (refuses (records past) _)
      (either (Ends (records past)) (nat_le last_epoch (epoch_of (records past))) (refuses (records past) _) (cuts (records past) _ _ (refl, refl)))))

  pub roll_ends_down : (out : ℕ) → Ends (records past) (down c past out RollCall)
  roll_ends_down out =
      either (Ends (records past)) (has_ended (records past)) (refuses (records past) _)
      (either (Ends (records past)) (nat_lt c.limits.history (2 * (length (book (records past)) + downs.kept_in_all c past))) (refuses (records past) _)
      (either (Ends (records past)) (nat_le last_epoch (epoch_of (records past))) (refuses (records past) _) (cuts (records past) _ _ (refl, refl))))

-- a list of steps goes on into another by a record that ends no history, or by none
abbrev pub GoesOn : (before after : List Step) → Type 0
GoesOn before after = (records after ≡ records before) ⊎ ((r : Record) × (records after ≡ r ∷ records before) × (is_cut r.kind ≡ false))

-- by a record that ends one, with the number of the next one
abbrev pub GoesOver : (before after : List Step) → Type 0
GoesOver before after =
    (r : Record) × (records after ≡ r ∷ records before) × (is_cut r.kind ≡ true)
    × (epoch_of (r ∷ records before) ≡ epoch_of (records before) + 1)

module _ (before : List Step) (call : Call) (e : Exchange) where
  adds : (o : Option Record) → e.rec ≡ o → EndsNone o → GoesOn before (record { call = call; entry = e } ∷ before)
  adds None is h = inl (ap (λ (o : Option Record). with_record o (records before)) is)
  adds (Some r) is h = inr (r, ap (λ (o : Option Record). with_record o (records before)) is, h)

  pub goes_on : EndsNone e.rec → GoesOn before (record { call = call; entry = e } ∷ before)
  goes_on h = adds e.rec refl h

  ends_by : (o : Option Record) → e.rec ≡ o → EndsOne (records before) o → GoesOver before (record { call = call; entry = e } ∷ before)
  ends_by None is h = absurd h
  ends_by (Some r) is h = (r, ap (λ (o : Option Record). with_record o (records before)) is, h.0, h.1)

  pub goes_over : EndsOne (records before) e.rec → GoesOver before (record { call = call; entry = e } ∷ before)
  goes_over h = ends_by e.rec refl h
