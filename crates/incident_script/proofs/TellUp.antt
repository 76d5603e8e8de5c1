-- The record of a server's call tells it.
use Rattle.std.proofs.Common.{ℕ, List, ◌≡◌, Bool, true, false, not, Option, Some, None, refl}
use Rattle.std.specs.Prelude.{if◌then◌else◌, ◌==◌, ◌+◌, ◌*◌, max, sum_by, nat_le, nat_lt, length, ◌||◌}
use Rattle.mux_frame.specs.Spelling.{MuxFrame}
use Rattle.mux_history.specs.declared.name.Name.{Name}
use Rattle.mux_history.specs.declared.kind.RecordKind.TheVariants.{Settled, SettledNack}
use Rattle.mux_history.specs.Readings.{has_ended, reading, stands, is_open as is_ready, is_retiring, ping_outstanding, Sending, sendings, sending_on, least, epoch_of}
use Rattle.mux_model.specs.Steps.{Call, FrameCall, NoteCall, SettleCall, NackCall, UnrouteCall, FailCall, DrainCall, OfferCall, RecallCall, ClockCall, PingCall, RetireCall, LoseCall, LoseNextCall, SealCall, RollCall, ProbeCall, Step, entries, records, Outcome, Recorded, entry_of, last_epoch, queued, is_nack}
use Rattle.mux_model.specs.Up.{UpSession, Reaction, Shut, Full, Short, Closes, Settles, Pongs, Drains, Leases, Ignores, Unsupports, AsksInit, EndsInit, EndsPing, Drops, reacted, reaction, settled_by, init_of, is_drained, is_lapsed, free_out, free_records, is_recallable, kept_for, next_lost, up}
use Rattle.incident_script.specs.Commands.{command_up}
use Rattle.incident_script.specs.Telling.{TellsCall, RecordsTellUp}
use Rattle.incident_script.proofs.TellDown.{of_both}

module _ (s : UpSession) (past : List Step) where
  abbrev T : Call → Outcome → Type 0
  T = TellsCall command_up

  settling : (f : MuxFrame) (now : ℕ) (n : Option Name) (again : Option MuxFrame) (nack : Bool) → is_nack f ≡ nack → T (FrameCall f now)
      (Recorded (entry_of (records past) now (if nack then SettledNack else Settled f.kind) f.tag n (Some f) None) (settled_by f n again))
  settling f now None again true e = (refl, tt, λ h. absurd (cc))
  settling f now None again false e = (refl, tt, λ h. absurd (cc))
  settling f now (Some n) again true e = (refl, (cc, tt), λ h. absurd (cc))
  settling f now (Some n) again false e = (refl, (cc, tt), λ h. absurd (cc))

  frame_told : (f : MuxFrame) (now : ℕ) (r : Reaction) → T (FrameCall f now) (reacted s past f now r)
  frame_told f now Shut = tt
  frame_told f now Full = tt
  frame_told f now Short = tt
  frame_told f now (Closes cause) = (refl, tt, λ e. absurd (cc))
  frame_told f now (Settles n again) = settling f now n again (is_nack f) refl
  frame_told f now Pongs = (refl, tt, λ e. absurd (cc))
  frame_told f now Drains = (refl, tt, λ e. absurd (cc))
  frame_told f now (Leases ms) = (refl, tt, λ e. absurd (cc))
  frame_told f now Ignores = (refl, tt, λ e. absurd (cc))
  frame_told f now Unsupports = (refl, tt, λ e. absurd (cc))
  frame_told f now AsksInit = (refl, tt, λ e. absurd (cc))
  frame_told f now EndsInit = (refl, tt, λ e. absurd (cc))
  frame_told f now EndsPing = (refl, tt, λ e. absurd (cc))
  frame_told f now Drops = (refl, tt, λ e. absurd (cc))

  losing : (next : Option Sending) → T LoseNextCall (next_lost (records past) next)
  losing None = tt
  losing (Some e) = by_name e.name
    where
      by_name : (n : Option Name) → T LoseNextCall (next_lost (records past) (Some (record e { name = n })))
      by_name None = (refl, tt, λ _. refl)
      by_name (Some n) = (refl, (refl, tt), λ _. refl)

  offer_told : (out t : ℕ) (n : Name) (f : MuxFrame) (left now : ℕ) → T (OfferCall n f left now) (up s past out t (OfferCall n f left now))
  offer_told out t n f left now =
      let T = T (OfferCall n f left now) in
      of_both T (has_ended (records past)) _ _ (λ _. tt)
      (of_both T (not (is_ready (init_of s (records past)))) _ _ (λ _. tt)
      (of_both T (is_drained (entries past)) _ _ (λ _. tt)
      (of_both T (stands is_retiring (records past)) _ _ (λ _. tt)
      (of_both T (is_lapsed (entries past) (max (reading (records past)) now)) _ _ (λ _. tt)
      (of_both T (nat_le s.limits.window (length (sendings (records past)))) _ _ (λ _. tt)
      (of_both T (nat_lt (free_out s past out) 2) _ _ (λ _. tt)
      (of_both T (nat_lt (free_records s past) 3) _ _ (λ _. tt) (refl, (refl, tt), λ e. absurd (cc)))))))))

  call_told : (out t : ℕ) (call : Call) → T call (up s past out t call)
  call_told out t (FrameCall f now) = frame_told f now (reaction s past out f)
  call_told out t (OfferCall n f left now) = offer_told out t n f left now
  call_told out t (RecallCall n tag why now) =
      of_both (T (RecallCall n tag why now)) (has_ended (records past)) _ _ (λ _. tt)
      (of_both (T (RecallCall n tag why now)) (is_recallable n (sending_on tag (sendings (records past)))) _ _ (λ _. (refl, tt, λ e. absurd (cc))) tt)
  call_told out t (ClockCall now) =
      of_both (T (ClockCall now)) (has_ended (records past)) _ _ (λ _. tt)
      (of_both (T (ClockCall now)) (free_records s past == 0) _ _ (λ _. tt) (refl, tt, λ e. absurd (cc)))
  call_told out t (RetireCall now) =
      of_both (T (RetireCall now)) (has_ended (records past)) _ _ (λ _. tt)
      (of_both (T (RetireCall now)) (free_records s past == 0) _ _ (λ _. tt) (refl, tt, λ e. absurd (cc)))
  call_told out t (PingCall now) =
      of_both (T (PingCall now)) (has_ended (records past)) _ _ (λ _. tt)
      (of_both (T (PingCall now)) (not (is_ready (init_of s (records past)))) _ _ (λ _. tt)
      (of_both (T (PingCall now)) (ping_outstanding (records past)) _ _ (λ _. tt)
      (of_both (T (PingCall now)) (free_out s past out == 0) _ _ (λ _. tt)
      (of_both (T (PingCall now)) (free_records s past == 0) _ _ (λ _. tt) (refl, tt, λ e. absurd (cc))))))
  call_told out t (LoseCall now) = of_both (T (LoseCall now)) (has_ended (records past)) _ _ (λ _. tt) (refl, tt, λ e. absurd (cc))
  call_told out t LoseNextCall = of_both (T LoseNextCall) (has_ended (records past)) _ _ (λ _. losing (least (sendings (records past)))) tt
  call_told out t SealCall =
      of_both (T SealCall) (has_ended (records past)) _ _ (λ _. tt)
      (of_both (T SealCall) (nat_lt 0 (length (sendings (records past))) || nat_lt 0 (queued (entries past) out)) _ _ (λ _. tt)
      (of_both (T SealCall) (nat_lt s.limits.history (4 * free_records s past)) _ _ (λ _. tt)
      (of_both (T SealCall) (nat_le last_epoch (epoch_of (records past))) _ _ (λ _. tt) (refl, tt, λ _. refl))))
  call_told out t RollCall =
      of_both (T RollCall) (has_ended (records past)) _ _ (λ _. tt)
      (of_both (T RollCall) (nat_lt s.limits.history (2 * (length (sendings (records past)) + sum_by kept_for (sendings (records past))))) _ _ (λ _. tt)
      (of_both (T RollCall) (nat_le last_epoch (epoch_of (records past))) _ _ (λ _. tt) (refl, tt, λ _. refl)))
  call_told out t (NoteCall _ _ _) = tt
  call_told out t (SettleCall _ _ _) = tt
  call_told out t (NackCall _) = tt
  call_told out t (UnrouteCall _) = tt
  call_told out t (FailCall _) = tt
  call_told out t DrainCall = tt
  call_told out t ProbeCall = tt

pub records_tell_up : RecordsTellUp
records_tell_up s past out t call = call_told s past out t call
