-- The record of a client's call tells it.
use Rattle.std.proofs.Common.{ℕ, List, [], ◌∷◌, ◌≡◌, ◌&&◌, Bool, true, false, not, Option, Some, None, refl}
use Rattle.std.specs.Prelude.{if◌then◌else◌, ◌==◌, ◌+◌, ◌*◌, codes, nat_le, nat_lt, length, ◌||◌}
use Rattle.std.proofs.lemmas.Bool.{and_parts}
use Rattle.mux_frame.specs.Spelling.{MuxFrame}
use Rattle.mux_history.specs.declared.name.Name.{Name}
use Rattle.mux_history.specs.declared.session.SessionId.TheVariants.{Client}
use Rattle.mux_history.specs.declared.kind.RecordKind.{RecordKind}
use Rattle.mux_history.specs.declared.kind.RecordKind.TheVariants.{Discarded, Noted, Passed, Failed, Nacked, Unrouted, Late, Recalled}
use Rattle.mux_history.specs.Readings.{has_ended, drain_of, is_running, note_due, answer_due, tag_of, book, epoch_of}
use Rattle.mux_message.specs.Made.{rdiscarded_on, nack_on, rerr_on, retag}
use Rattle.mux_message.specs.Spellings.{normal}
use Rattle.mux_model.specs.Tags.{holder, name_held}
use Rattle.mux_model.specs.Steps.{RecallOf, Call, FrameCall, NoteCall, SettleCall, NackCall, UnrouteCall, FailCall, DrainCall, OfferCall, RecallCall, ClockCall, PingCall, RetireCall, LoseCall, LoseNextCall, SealCall, RollCall, ProbeCall, Step, entries, records, now_of, NotMine, Outcome, Refused, Recorded, entry_of, last_epoch, queued, is_nack}
use Rattle.mux_model.specs.Down.{DownSession, kept_in_all, is_held, Reaction, Shut, Full, Short, Closes, NacksDrained, Takes, Pongs, Inits, Misplaced, Unsupports, Echoes, Acks, Ignores, Discards, reacted, reaction, discarded, recall_to, some_of, noted_place, answer, pass, settle, is_mine, reason_of, next_recall, next_recalled, down, free_out, free_records, left_of}
use Rattle.incident_script.specs.Commands.{command_down}
use Rattle.incident_script.specs.Telling.{is_made, TellsCall, RecordsTellDown}

-- what holds of both branches holds of the choice
pub of_both : {A : Type 0} (Q : A → Type 0) (b : Bool) (x y : A) → (b ≡ true → Q x) → Q y → Q (if b then x else y)
of_both Q true x y f q = f refl
of_both Q false x y f q = q

module _ (c : DownSession) (past : List Step) where
  abbrev T : Call → Outcome → Type 0
  T = TellsCall command_down

  discarding : (f : MuxFrame) (now t : ℕ) (why : List ℕ) (n : Name) (place : Option (ℕ × ℕ)) → T (FrameCall f now)
      (Recorded (entry_of (records past) now (Discarded (some_of (recall_to n why place))) t (Some n) (Some f) (Some (rdiscarded_on t)))
      (recall_to n why place))
  discarding f now t why n None = (refl, tt, λ e. absurd (cc))
  discarding f now t why n (Some p) = (refl, (refl, tt), λ e. absurd (cc))

  discards_told : (f : MuxFrame) (now t : ℕ) (why : List ℕ) (held : Option Name) → T (FrameCall f now) (discarded past now f t why held)
  discards_told f now t why None = (refl, tt, λ e. absurd (cc))
  discards_told f now t why (Some n) = discarding f now t why n (noted_place n past)

  frame_told : (f : MuxFrame) (now : ℕ) (r : Reaction) → T (FrameCall f now) (reacted c past f now r)
  frame_told f now Shut = tt
  frame_told f now Full = tt
  frame_told f now Short = tt
  frame_told f now (Closes cause) = (refl, tt, λ e. absurd (cc))
  frame_told f now NacksDrained = (refl, tt, λ e. absurd (cc))
  frame_told f now Takes = (refl, (refl, tt), λ e. absurd (cc))
  frame_told f now (Discards t why) = discards_told f now t why (name_held (holder (Client c.number) t (entries past)))
  frame_told f now Pongs = (refl, tt, λ e. absurd (cc))
  frame_told f now Inits = (refl, tt, λ e. absurd (cc))
  frame_told f now Misplaced = (refl, tt, λ e. absurd (cc))
  frame_told f now Unsupports = (refl, tt, λ e. absurd (cc))
  frame_told f now Echoes = (refl, tt, λ e. absurd (cc))
  frame_told f now Acks = (refl, tt, λ e. absurd (cc))
  frame_told f now Ignores = (refl, tt, λ e. absurd (cc))

  -- an answer that goes out, or is late
  answer_told : (call : Call) (n : Name) (kind : RecordKind) (whole : Bool) (reply : ℕ → MuxFrame) → is_made (command_down kind) call ≡ true →
      is_made (command_down (Late whole)) call ≡ true → now_of call ≡ 0 → T call (answer c past n kind whole reply)
  answer_told call n kind whole reply made late none =
      of_both (T call) (is_held c n past) _ _ (λ _. (made, tt, λ _. none)) (late, tt, λ _. none)

  pass_told : (n : Name) (reply : MuxFrame) (again : Option MuxFrame) → T (SettleCall n reply again) (pass c past n reply)
  pass_told n reply again = answer_told (SettleCall n reply again) n Passed false (λ t. retag t (normal reply)) refl refl refl

  settle_told : (n : Name) (reply : MuxFrame) (again : Option MuxFrame) → T (SettleCall n reply again) (settle c past n reply again)
  settle_told n reply None = pass_told n reply None
  settle_told n reply (Some f) =
      of_both (T (SettleCall n reply (Some f))) (is_nack reply && is_held c n past && not (note_due n (records past)) && nat_lt 0 (left_of c.limits n (records past))) _ _
      (λ all. ((and_parts _ _ (and_parts _ _ (and_parts _ _ all).0).0).0, (refl, tt), λ _. refl)) (pass_told n reply (Some f))

  noting : (n : Name) (server tag : ℕ) (held due mine : Bool) →
      (let given = if held then [] else if due then RecallOf n server tag (reason_of n (entries past)) ∷ [] else [] in
      T (NoteCall n server tag) (if mine then Recorded (entry_of (records past) 0 (Noted (some_of given)) (tag_of n (records past)) (Some n) None None) given else Refused NotMine))
  noting n server tag held due false = tt
  noting n server tag true due true = (refl, tt, λ _. refl)
  noting n server tag false true true = (refl, (refl, tt), λ _. refl)
  noting n server tag false false true = (refl, tt, λ _. refl)

  recalling : (n : Name) (why : List ℕ) (place : Option (ℕ × ℕ)) → T LoseNextCall (Recorded (entry_of (records past) 0 Recalled (tag_of n (records past)) (Some n) None None) (recall_to n why place))
  recalling n why None = (refl, tt, λ _. refl)
  recalling n why (Some p) = (refl, (refl, tt), λ _. refl)

  recall_told : (next : Option Name) → T LoseNextCall (next_recall c past next)
  recall_told None = tt
  recall_told (Some n) = recalling n (reason_of n (entries past)) (noted_place n past)

  call_told : (out : ℕ) (call : Call) → T call (down c past out call)
  call_told out (FrameCall f now) = frame_told f now (reaction c past out f)
  call_told out (NoteCall n server tag) =
      noting n server tag (is_held c n past) (answer_due n (records past)) (is_mine c n && note_due n (records past))
  call_told out (SettleCall n reply again) =
      of_both (T (SettleCall n reply again)) (is_mine c n && answer_due n (records past)) _ _ (λ _. settle_told n reply again) tt
  call_told out (FailCall n) =
      of_both (T (FailCall n)) (is_mine c n && answer_due n (records past)) _ _ (λ _. answer_told (FailCall n) n Failed false (λ t. rerr_on t (codes "upstream lost")) refl refl refl) tt
  call_told out (NackCall n) =
      of_both (T (NackCall n)) (is_mine c n && answer_due n (records past) && note_due n (records past)) _ _ (λ _. answer_told (NackCall n) n Nacked true nack_on refl refl refl) tt
  call_told out (UnrouteCall n) =
      of_both (T (UnrouteCall n)) (is_mine c n && answer_due n (records past) && note_due n (records past)) _ _ (λ _. answer_told (UnrouteCall n) n Unrouted true (λ t. rerr_on t (codes "no route")) refl refl refl) tt
  call_told out DrainCall =
      of_both (T DrainCall) (has_ended (records past)) _ _ (λ _. tt)
      (of_both (T DrainCall) (not (is_running (drain_of (records past)))) _ _ (λ _. tt)
      (of_both (T DrainCall) (free_out c past out == 0) _ _ (λ _. tt)
      (of_both (T DrainCall) (free_records c past == 0) _ _ (λ _. tt) (refl, tt, λ _. refl))))
  call_told out (LoseCall now) = of_both (T (LoseCall now)) (has_ended (records past)) _ _ (λ _. tt) (refl, tt, λ e. absurd (cc))
  call_told out LoseNextCall = of_both (T LoseNextCall) (has_ended (records past)) _ _ (λ _. recall_told (next_recalled (records past))) tt
  call_told out SealCall =
      of_both (T SealCall) (has_ended (records past)) _ _ (λ _. tt)
      (of_both (T SealCall) (nat_lt 0 (length (book (records past))) || nat_lt 0 (queued (entries past) out)) _ _ (λ _. tt)
      (of_both (T SealCall) (nat_lt c.limits.history (4 * free_records c past)) _ _ (λ _. tt)
      (of_both (T SealCall) (nat_le last_epoch (epoch_of (records past))) _ _ (λ _. tt) (refl, tt, λ _. refl))))
  call_told out RollCall =
      of_both (T RollCall) (has_ended (records past)) _ _ (λ _. tt)
      (of_both (T RollCall) (nat_lt c.limits.history (2 * (length (book (records past)) + kept_in_all c past))) _ _ (λ _. tt)
      (of_both (T RollCall) (nat_le last_epoch (epoch_of (records past))) _ _ (λ _. tt) (refl, tt, λ _. refl)))
  call_told out (OfferCall _ _ _ _) = tt
  call_told out (RecallCall _ _ _ _) = tt
  call_told out (ClockCall _) = tt
  call_told out (PingCall _) = tt
  call_told out (RetireCall _) = tt
  call_told out ProbeCall = tt

pub records_tell_down : RecordsTellDown
records_tell_down c past out call = call_told c past out call
