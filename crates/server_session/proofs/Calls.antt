-- The calls that are about no dispatch.
use Rattle.std.proofs.Common.{◌≡◌, ℕ, ◌+◌, ◌*◌, Bool, true, false, cond, [], length, Option, None, Some, refl, sym, ap}
use Rattle.std.specs.Prelude.{◌==◌, ◌||◌, not, nat_lt, nat_le}
use Rattle.mux_frame.specs.Spelling.{MuxFrame}
use Rattle.mux_history.specs.declared.kind.Cause.{Cause}
use Rattle.mux_history.specs.declared.kind.RecordKind.TheVariants as kinds
use Rattle.mux_history.specs.declared.session.DrainState.TheVariants as drains
use Rattle.mux_history.specs.Readings.{has_ended, drain_of, is_running, stands, is_drain_acked, is_drain_asked, book as book_of, epoch_of}
use Rattle.mux_history.specs.Standings.{down_standing}
use Rattle.mux_message.specs.Made.{tdrain_on}
use Rattle.mux_model.specs.Steps.{Refusal, IsClosed, IsBusy, IsSpent, AlreadyDraining, NotQuiet, NotFull, LastEpoch, NoRoom, Outcome, Refused, Recorded, DrainCall, SealCall, RollCall, LoseCall, FrameCall, records, entries, entry_of, sealing, rolling, closing as closing_line, queued, last_epoch}
use Rattle.mux_model.specs.Down.{down, free_out as out_left, free_records as records_left, kept_in_all}
use Rattle.gate.specs.declared.drain.DrainOut.TheVariants as outs
use Rattle.server_session.specs.declared.answers.DrainRefusal.{DrainRefusal}
use Rattle.server_session.specs.declared.answers.DrainRefusal.TheVariants as asked
use Rattle.translate_book.specs.declared.refusal.SealRefusal.TheVariants as seals
use Rattle.translate_book.specs.declared.refusal.RollRefusal.TheVariants as rolls
use Rattle.server_session.specs.Past.{Past, Figures, figures_of, add}
use Rattle.server_session.specs.State.{State, noted, closing, asked_on_one}
use Rattle.server_session.specs.Decide.{free_out, free_records, drain_refusal, seal_refusal, roll_refusal, why_drain, why_seal, why_roll}
use Rattle.server_session.specs.Belonging.{Belongs}
use Rattle.server_session.proofs.Keeping.{quiet}
use Rattle.server_session.proofs.Shutting.{kept_closed}

-- a refusal, or else what is recorded
abbrev pub decided : {A : Type 0} → (A → Refusal) → Option A → Outcome → Outcome
decided why None rest = rest
decided why (Some r) rest = Refused (why r)

drain_chain : (a b c d : Bool) (rest : Outcome)
    → cond a (Refused IsClosed) (cond b (Refused AlreadyDraining) (cond c (Refused IsBusy) (cond d (Refused IsSpent) rest)))
    ≡ decided why_drain (cond a (Some asked.Closed) (cond b (Some asked.AlreadyDraining) (cond c (Some asked.Busy) (cond d (Some asked.Spent) None)))) rest
drain_chain true b c d rest = refl
drain_chain false true c d rest = refl
drain_chain false false true d rest = refl
drain_chain false false false true rest = refl
drain_chain false false false false rest = refl

pub drain_told : (p : Past) → down p.session p.steps (length p.out) DrainCall
    ≡ decided why_drain (drain_refusal (figures_of p)) (Recorded (entry_of (records p.steps) 0 kinds.DrainAsked 1 None None (Some (tdrain_on 1))) [])
drain_told p =
    drain_chain (has_ended (records p.steps)) (not (is_running (drain_of (records p.steps)))) (out_left p.session p.steps (length p.out) == 0) (records_left p.session p.steps == 0) _

pub running : (f : Figures) → drain_refusal f ≡ None → is_running f.drain ≡ true
running f h = by f.closed (is_running f.drain) (cond (free_out f == 0) (Some asked.Busy) (cond (free_records f == 0) (Some asked.Spent) None)) h
  where
    by : (a b : Bool) (rest : Option DrainRefusal) → cond a (Some asked.Closed) (cond (not b) (Some asked.AlreadyDraining) rest) ≡ None → b ≡ true
    by true b rest h = cc
    by false true rest h = refl
    by false false rest h = cc

unasked : (acked asks : Bool) → is_running (cond acked drains.Acked (cond asks drains.Asked drains.Running)) ≡ true → acked ≡ false
unasked true asks h = cc
unasked false asks h = refl

pub kept_drain : (s : State) (p : Past) → Belongs s p → is_running (drain_of (records p.steps)) ≡ true
    → Belongs (noted (record s { drain = outs.Asked 1 }) 0 kinds.DrainAsked 1 None (Some (tdrain_on 1))) (add p DrainCall (entry_of (records p.steps) 0 kinds.DrainAsked 1 None None (Some (tdrain_on 1))))
kept_drain s p b run =
    let none = unasked (stands is_drain_acked (records p.steps)) (stands is_drain_asked (records p.steps)) run in
    quiet s p 0 DrainCall kinds.DrainAsked 1 None None (Some (tdrain_on 1)) s.init (outs.Asked 1) b (record {
      written = refl;
      epoch = refl;
      dispatches = refl;
      ended = refl;
      book = refl;
      words = λ n. refl;
      holders = λ t. refl;
    }) b.init (sym (ap (λ z. asked_on_one (cond z drains.Acked drains.Asked)) none))

-- THE END OF THE LIST

pub kept_lost : (s : State) (p : Past) (now : ℕ) → Belongs s p
    → Belongs (noted (closing s) now kinds.Lost 0 None None) (add p (LoseCall now) (entry_of (records p.steps) now kinds.Lost 0 None None None))
kept_lost s p now b = kept_closed s p now (LoseCall now) kinds.Lost b (λ n. refl) refl refl refl refl refl refl refl

pub kept_shut : (s : State) (p : Past) (now : ℕ) (f : MuxFrame) (cause : Cause) → Belongs s p
    → Belongs (noted (closing s) now (kinds.Closed cause) 0 None None) (add p (FrameCall f now) (closing_line (records p.steps) now cause))
kept_shut s p now f cause b = kept_closed s p now (FrameCall f now) (kinds.Closed cause) b (λ n. refl) refl refl refl refl refl refl refl

seal_chain : (a b c d : Bool) (rest : Outcome)
    → cond a (Refused IsClosed) (cond b (Refused NotQuiet) (cond c (Refused NotFull) (cond d (Refused LastEpoch) rest)))
    ≡ decided why_seal (cond a (Some seals.Closed) (cond b (Some seals.NotQuiet) (cond c (Some seals.NotFull) (cond d (Some seals.LastEpoch) None)))) rest
seal_chain true b c d rest = refl
seal_chain false true c d rest = refl
seal_chain false false true d rest = refl
seal_chain false false false true rest = refl
seal_chain false false false false rest = refl

pub seal_told : (p : Past) → down p.session p.steps (length p.out) SealCall
    ≡ decided why_seal (seal_refusal (figures_of p)) (Recorded (sealing (records p.steps) (down_standing (records p.steps))) [])
seal_told p =
    seal_chain (has_ended (records p.steps)) (nat_lt 0 (length (book_of (records p.steps))) || nat_lt 0 (queued (entries p.steps) (length p.out)))
    (nat_lt p.session.limits.history (4 * records_left p.session p.steps)) (nat_le last_epoch (epoch_of (records p.steps))) _

roll_chain : (a b c : Bool) (rest : Outcome)
    → cond a (Refused IsClosed) (cond b (Refused NoRoom) (cond c (Refused LastEpoch) rest))
    ≡ decided why_roll (cond a (Some rolls.Closed) (cond b (Some rolls.NoRoom) (cond c (Some rolls.LastEpoch) None))) rest
roll_chain true b c rest = refl
roll_chain false true c rest = refl
roll_chain false false true rest = refl
roll_chain false false false rest = refl

pub roll_told : (p : Past) → down p.session p.steps (length p.out) RollCall
    ≡ decided why_roll (roll_refusal (figures_of p)) (Recorded (rolling (records p.steps)) [])
roll_told p =
    roll_chain (has_ended (records p.steps))
    (nat_lt p.session.limits.history (2 * (length (book_of (records p.steps)) + kept_in_all p.session p.steps)))
    (nat_le last_epoch (epoch_of (records p.steps))) _
