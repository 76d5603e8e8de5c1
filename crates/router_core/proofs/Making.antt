-- What each recorded step of a session has in common: a record, and the frame that was handed in, unless it closed the session.
use Rattle.std.proofs.Common.{◌≡◌, ◌+◌, ℕ, List, ◌∷◌, Bool, true, false, not, Option, Some, None, refl, sym, ap, ◌∙◌, if◌then◌else◌, length}
use Rattle.std.specs.Prelude.{◌==◌, ◌*◌, ◌||◌, nat_lt, nat_le, max, sum_by, codes}
use Rattle.mux_frame.specs.Spelling.{MuxFrame}
use Rattle.mux_message.specs.Made.{nack_on, rerr_on, retag}
use Rattle.mux_message.specs.Spellings.{normal}
use Rattle.mux_history.specs.Bounds.{Bounds}
use Rattle.mux_history.specs.declared.name.Name.{Name}
use Rattle.mux_history.specs.declared.record.Record.{Record}
use Rattle.mux_history.specs.declared.kind.Standing.{Standing}
use Rattle.mux_history.specs.declared.kind.RecordKind.{RecordKind}
use Rattle.mux_history.specs.declared.kind.RecordKind.TheVariants as kinds
use Rattle.mux_history.specs.declared.session.SessionId.{SessionId}
use Rattle.mux_history.specs.declared.session.SessionId.TheVariants.{Client, Server}
use Rattle.mux_history.specs.Readings.{is_cut, epoch_of, Sending, has_ended, is_running, drain_of, book, sendings, sending_on, is_open as is_ready, ping_outstanding, stands, is_retiring, reading}
use Rattle.mux_model.specs.Entries.{Exchange}
use Rattle.mux_model.specs.Steps.{Refusal, Held, Call, FrameCall, NoteCall, SettleCall, NackCall, UnrouteCall, FailCall, DrainCall, OfferCall, RecallCall, ClockCall, PingCall, RetireCall, LoseCall, LoseNextCall, SealCall, RollCall, ProbeCall, Step, Outcome, Refused, Unrecorded, Recorded, records, entry_of, closing, sealing, rolling, is_nack, queued, entries, last_epoch}
use Rattle.mux_model.specs.Down as down
use Rattle.mux_model.specs.Up as up
use Rattle.mux_model.specs.World.{Connection, outcome, outcome_at}
use Rattle.router_core.specs.Entries.{closes_by, closes, frame_of}

pub record Made (past : List Record) (handed : Option MuxFrame) (e : Exchange) : Type 0 where
  pub rec_ : Record
  pub rec : e.rec ≡ Some rec_
  pub taken : e.taken ≡ (if closes_by (Some rec_) then None else handed)
  pub next : is_cut rec_.kind ≡ true → epoch_of (rec_ ∷ past) ≡ epoch_of past + 1

pub data MadeBy (past : List Record) (handed : Option MuxFrame) : Outcome → Type 0 where
  refuses : {why : Refusal} → MadeBy past handed (Refused why)
  passes : MadeBy past handed Unrecorded
  makes : {e : Exchange} {gives : List Held} → Made past handed e → MadeBy past handed (Recorded e gives)

module _ (past : List Record) (handed : Option MuxFrame) where
  either : (b : Bool) (x y : Outcome) → MadeBy past handed x → MadeBy past handed y → MadeBy past handed (if b then x else y)
  either true x y p q = p
  either false x y p q = q

  plain : (now : ℕ) (kind : RecordKind) (tag : ℕ) (name : Option Name) (taken sent : Option MuxFrame) → is_cut kind ≡ false → closes kind ≡ false → taken ≡ handed
      → Made past handed (entry_of past now kind tag name taken sent)
  plain now kind tag name taken sent other shut same = record {
    rec_ = record { kind = kind; tag = tag; name = name; reading = _ };
    rec = refl;
    taken = same ∙ sym (ap (λ x. if x then None else handed) shut);
    next = λ is. absurd (cc);
  }

  ends : (now : ℕ) (cause : _) → Made past handed (closing past now cause)
  ends now cause = record { rec_ = _; rec = refl; taken = refl; next = λ is. absurd (cc) }

seals : (past : List Record) (s : Standing) → Made past None (sealing past s)
seals past s = record { rec_ = _; rec = refl; taken = refl; next = λ is. refl }

rolls : (past : List Record) → Made past None (rolling past)
rolls past = record { rec_ = _; rec = refl; taken = refl; next = λ is. refl }

module _ (c : down.DownSession) (past : List Step) (out : ℕ) where
  abbrev rs : List Record
  rs = records past

  discarded : (now : ℕ) (f : MuxFrame) (t : ℕ) (why : List ℕ) (name : Option Name) → MadeBy rs (Some f) (down.discarded past now f t why name)
  discarded now f t why None = makes (plain rs (Some f) now (kinds.Discarded false) t None (Some f) _ refl refl refl)
  discarded now f t why (Some n) = makes (plain rs (Some f) now (kinds.Discarded _) t (Some n) (Some f) _ refl refl refl)

  down_reacted : (f : MuxFrame) (now : ℕ) (r : down.Reaction) → MadeBy rs (Some f) (down.reacted c past f now r)
  down_reacted f now down.Shut = refuses
  down_reacted f now down.Full = refuses
  down_reacted f now down.Short = refuses
  down_reacted f now (down.Closes cause) = makes (ends rs (Some f) now cause)
  down_reacted f now down.NacksDrained = makes (plain rs (Some f) now kinds.TookDrained f.tag _ (Some f) _ refl refl refl)
  down_reacted f now down.Takes = makes (plain rs (Some f) now kinds.Took f.tag _ (Some f) _ refl refl refl)
  down_reacted f now (down.Discards t why) = discarded now f t why _
  down_reacted f now down.Pongs = makes (plain rs (Some f) now kinds.Ponged f.tag _ (Some f) _ refl refl refl)
  down_reacted f now down.Inits = makes (plain rs (Some f) now kinds.InitDone f.tag _ (Some f) _ refl refl refl)
  down_reacted f now down.Misplaced = makes (plain rs (Some f) now kinds.OutOfPlace f.tag _ (Some f) _ refl refl refl)
  down_reacted f now down.Unsupports = makes (plain rs (Some f) now kinds.Unsupported f.tag _ (Some f) _ refl refl refl)
  down_reacted f now down.Echoes = makes (plain rs (Some f) now kinds.Echoed f.tag _ (Some f) _ refl refl refl)
  down_reacted f now down.Acks = makes (plain rs (Some f) now kinds.DrainAcked f.tag _ (Some f) _ refl refl refl)
  down_reacted f now down.Ignores = makes (plain rs (Some f) now kinds.Ignored f.tag _ (Some f) _ refl refl refl)

  answers : (n : Name) (kind : RecordKind) (whole : Bool) (reply : ℕ → MuxFrame) → is_cut kind ≡ false → closes kind ≡ false → MadeBy rs None (down.answer c past n kind whole reply)
  answers n kind whole reply other shut =
      either rs None (down.is_held c n past) _ _ (makes (plain rs None 0 kind _ (Some n) None _ other shut refl)) (makes (plain rs None 0 (kinds.Late whole) _ (Some n) None None refl refl refl))

  settles : (n : Name) (reply : MuxFrame) (again : Option MuxFrame) → MadeBy rs None (down.settle c past n reply again)
  settles n reply None = answers n kinds.Passed false (λ t. retag t (normal reply)) refl refl
  settles n reply (Some f) = either rs None _ _ _ (makes (plain rs None 0 kinds.Retried _ (Some n) None None refl refl refl)) (answers n kinds.Passed false (λ t. retag t (normal reply)) refl refl)

  next_recall : (name : Option Name) → MadeBy rs None (down.next_recall c past name)
  next_recall None = passes
  next_recall (Some n) = makes (plain rs None 0 kinds.Recalled _ (Some n) None None refl refl refl)

  pub down_made : (call : Call) → MadeBy rs (frame_of call) (down.down c past out call)
  down_made (FrameCall f now) = down_reacted f now _
  down_made (NoteCall n server tag) = either rs None _ _ _ (makes (plain rs None 0 (kinds.Noted _) _ (Some n) None None refl refl refl)) refuses
  down_made (SettleCall n reply again) = either rs None _ _ _ (settles n reply again) refuses
  down_made (FailCall n) = either rs None _ _ _ (answers n kinds.Failed false (λ t. rerr_on t (codes "upstream lost")) refl refl) refuses
  down_made (NackCall n) = either rs None _ _ _ (answers n kinds.Nacked true nack_on refl refl) refuses
  down_made (UnrouteCall n) = either rs None _ _ _ (answers n kinds.Unrouted true (λ t. rerr_on t (codes "no route")) refl refl) refuses
  down_made DrainCall =
      either rs None (has_ended rs) _ _ refuses (either rs None (not (is_running (drain_of rs))) _ _ refuses (either rs None (down.free_out c past out == 0) _ _ refuses (either rs None (down.free_records c past == 0) _ _ refuses (makes (plain rs None 0 kinds.DrainAsked 1 None None _ refl refl refl)))))
  down_made (LoseCall now) = either rs None _ _ _ passes (makes (plain rs None now kinds.Lost 0 None None None refl refl refl))
  down_made LoseNextCall = either rs None _ _ _ (next_recall _) passes
  down_made SealCall = either rs None (has_ended rs) _ _ refuses (either rs None (nat_lt 0 (length (book rs)) || nat_lt 0 (queued (entries past) out)) _ _ refuses (either rs None (nat_lt c.limits.history (4 * down.free_records c past)) _ _ refuses (either rs None (nat_le last_epoch (epoch_of rs)) _ _ refuses (makes (seals rs _)))))
  down_made RollCall =
      either rs None (has_ended rs) _ _ refuses (either rs None (nat_lt c.limits.history (2 * (length (book rs) + down.kept_in_all c past))) _ _ refuses (either rs None (nat_le last_epoch (epoch_of rs)) _ _ refuses (makes (rolls rs))))
  down_made (OfferCall n f left now) = refuses
  down_made (RecallCall n tag why now) = refuses
  down_made (ClockCall now) = refuses
  down_made (PingCall now) = refuses
  down_made (RetireCall now) = refuses
  down_made ProbeCall = refuses

module _ (s : up.UpSession) (past : List Step) (out t : ℕ) where
  abbrev us : List Record
  us = records past

  settled : (f : MuxFrame) (now : ℕ) (n : Option Name) (nack : Bool) → Made us (Some f) (entry_of us now (if nack then kinds.SettledNack else kinds.Settled f.kind) f.tag n (Some f) None)
  settled f now n true = plain us (Some f) now kinds.SettledNack f.tag n (Some f) None refl refl refl
  settled f now n false = plain us (Some f) now (kinds.Settled f.kind) f.tag n (Some f) None refl refl refl

  up_reacted : (f : MuxFrame) (now : ℕ) (r : up.Reaction) → MadeBy us (Some f) (up.reacted s past f now r)
  up_reacted f now up.Shut = refuses
  up_reacted f now up.Full = refuses
  up_reacted f now up.Short = refuses
  up_reacted f now (up.Closes cause) = makes (ends us (Some f) now cause)
  up_reacted f now (up.Settles n again) = makes (settled f now n (is_nack f))
  up_reacted f now up.Pongs = makes (plain us (Some f) now kinds.Ponged f.tag None (Some f) _ refl refl refl)
  up_reacted f now up.Drains = makes (plain us (Some f) now kinds.Drained f.tag None (Some f) _ refl refl refl)
  up_reacted f now (up.Leases ms) = makes (plain us (Some f) now (kinds.Leased ms) f.tag None (Some f) _ refl refl refl)
  up_reacted f now up.Ignores = makes (plain us (Some f) now kinds.Ignored f.tag None (Some f) _ refl refl refl)
  up_reacted f now up.Unsupports = makes (plain us (Some f) now kinds.Unsupported f.tag None (Some f) _ refl refl refl)
  up_reacted f now up.AsksInit = makes (plain us (Some f) now kinds.InitAsked f.tag None (Some f) _ refl refl refl)
  up_reacted f now up.EndsInit = makes (plain us (Some f) now kinds.InitDone f.tag None (Some f) _ refl refl refl)
  up_reacted f now up.EndsPing = makes (plain us (Some f) now kinds.PingDone f.tag None (Some f) _ refl refl refl)
  up_reacted f now up.Drops = makes (plain us (Some f) now kinds.Dropped f.tag None (Some f) _ refl refl refl)

  next_lost : (e : Option Sending) → MadeBy us None (up.next_lost us e)
  next_lost None = passes
  next_lost (Some e) = makes (plain us None 0 kinds.LostOne e.tag e.name None None refl refl refl)

  offers : (n : Name) (f : MuxFrame) (now : ℕ) → MadeBy us None (up.offer s past out t n f now)
  offers n f now =
      either us None (has_ended us) _ _ refuses (either us None (not (is_ready (up.init_of s us))) _ _ refuses (either us None (up.is_drained (entries past)) _ _ refuses (either us None (stands is_retiring us) _ _ refuses (either us None (up.is_lapsed (entries past) (max (reading us) now)) _ _ refuses (either us None (nat_le s.limits.window (length (sendings us))) _ _ refuses (either us None (nat_lt (up.free_out s past out) 2) _ _ refuses (either us None (nat_lt (up.free_records s past) 3) _ _ refuses
      (makes (plain us None now kinds.Offered t (Some n) None _ refl refl refl)))))))))

  recalls : (n : Name) (tag : ℕ) (why : List ℕ) (now : ℕ) → MadeBy us None (up.recall s past n tag why now)
  recalls n tag why now = either us None (has_ended us) _ _ passes (either us None (up.is_recallable n (sending_on tag (sendings us))) _ _ (makes (plain us None now kinds.Discarding tag (Some n) None _ refl refl refl)) passes)

  pub up_made : (call : Call) → MadeBy us (frame_of call) (up.up s past out t call)
  up_made (FrameCall f now) = up_reacted f now _
  up_made (OfferCall n f left now) = offers n f now
  up_made (RecallCall n tag why now) = recalls n tag why now
  up_made (ClockCall now) = either us None (has_ended us) _ _ refuses (either us None (up.free_records s past == 0) _ _ refuses (makes (plain us None now kinds.Clock 0 None None None refl refl refl)))
  up_made (RetireCall now) = either us None (has_ended us) _ _ refuses (either us None (up.free_records s past == 0) _ _ refuses (makes (plain us None now kinds.Retired 0 None None None refl refl refl)))
  up_made (PingCall now) =
      either us None (has_ended us) _ _ refuses (either us None (not (is_ready (up.init_of s us))) _ _ refuses (either us None (ping_outstanding us) _ _ refuses (either us None (up.free_out s past out == 0) _ _ refuses (either us None (up.free_records s past == 0) _ _ refuses (makes (plain us None now kinds.PingSent 1 None None _ refl refl refl))))))
  up_made (LoseCall now) = either us None _ _ _ passes (makes (plain us None now kinds.Lost 0 None None None refl refl refl))
  up_made LoseNextCall = either us None _ _ _ (next_lost _) passes
  up_made SealCall = either us None (has_ended us) _ _ refuses (either us None (nat_lt 0 (length (sendings us)) || nat_lt 0 (queued (entries past) out)) _ _ refuses (either us None (nat_lt s.limits.history (4 * up.free_records s past)) _ _ refuses (either us None (nat_le last_epoch (epoch_of us)) _ _ refuses (makes (seals us _)))))
  up_made RollCall =
      either us None (has_ended us) _ _ refuses (either us None (nat_lt s.limits.history (2 * (length (sendings us) + sum_by up.kept_for (sendings us)))) _ _ refuses (either us None (nat_le last_epoch (epoch_of us)) _ _ refuses (makes (rolls us))))
  up_made (NoteCall n server tag) = refuses
  up_made (SettleCall n reply again) = refuses
  up_made (FailCall n) = refuses
  up_made (NackCall n) = refuses
  up_made (UnrouteCall n) = refuses
  up_made DrainCall = refuses
  up_made ProbeCall = refuses

pub outcome_made : (limits : Bounds) (c : Connection) (t : ℕ) (call : Call) → MadeBy (records c.steps) (frame_of call) (outcome limits c t call)
outcome_made limits c t call = by_side c.session
  where
    by_side : (id : SessionId) → MadeBy (records c.steps) (frame_of call) (outcome_at limits c id t call)
    by_side (Client k) = down_made (record { limits = limits; boot = c.boot; number = k }) c.steps c.out call
    by_side (Server k) = up_made (record { limits = limits; number = k; mode = c.mode }) c.steps c.out t call
