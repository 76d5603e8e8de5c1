-- What a slot keeps of a session towards a client, and the steps that are made on it.
use Rattle.std.specs.Prelude.{◌≡◌, ◌<◌, ◌⊎◌, ℕ, List, [], MatchBool, length, nat_lt, slice_get, IfSome, Option, Some, None, Result, Ok, Err}
use Rattle.mux_frame.specs.Views.{FrameView}
use Rattle.mux_history.specs.Log.{Log}
use Rattle.server_session.specs.declared.answers.DownStep.{DownStep}
use Rattle.server_session.specs.Inside.{frames_of}
use Rattle.server_session.specs.Past.{Past}
use Rattle.server_session.specs.Steps.{FrameStep, TakeOutsStep}
use Rattle.kept_session.specs.declared.ending.EpochEnd.{EpochEnd}
use Rattle.kept_session.specs.declared.ending.EpochRefusal.TheVariants.{Misfit, NoSession}
use Rattle.kept_session.specs.declared.ending.EpochRefused.{EpochRefused}
use Rattle.kept_session.specs.Ending.{EndsEpochDown, RefusesEndDown}
use Rattle.kept_session.specs.ReachedDown.{IsKeptDown, KeptDown, StepsDown, WereKeptDown}
use Rattle.hub_close.specs.declared.receipt.Stub.{Stub}
use Rattle.hub_base.specs.declared.fault.HubFault.{HubFault}

-- what a slot may keep: no session, or one that its own calls led to its state, with the records of such sessions as
-- the histories that ended
abbrev pub MayKeepDown : Option KeptDown → Type 0
MayKeepDown None = Unit {0}
MayKeepDown (Some s) = WereKeptDown s.ended × IsKeptDown s

-- how many records the present history has
abbrev pub held_down : Option KeptDown → ℕ
held_down None = 0
held_down (Some s) = length s.state.records

-- how many frames wait to be sent
abbrev pub queued_down : Option KeptDown → ℕ
queued_down None = 0
queued_down (Some s) = length s.state.queue

-- the session has made this step; a slot with no session stays so
abbrev pub MakesDown : Option KeptDown → Option KeptDown → (Past → Past → Type 0) → Type 0
MakesDown None after R = after ≡ None
MakesDown (Some s) None R = ⊥
MakesDown (Some s) (Some t) R = StepsDown s t R

-- the first step of a frame is the session's own, and its receipt has the first record that the step left; or nothing was
-- done
abbrev pub StartsDown : Option KeptDown → Option KeptDown → FrameView → ℕ → Result (Stub × DownStep) HubFault
    → Type 0
StartsDown None after f now (Ok t) = ⊥
StartsDown (Some s) after f now (Ok t) =
    MakesDown (Some s) after (λ p q. FrameStep p f now (Ok t.1) q)
    × (t.0.epoch ≡ s.state.epoch) × (t.0.place ≡ length s.state.records)
    × IfSome after (λ u. slice_get u.state.records t.0.place ≡ Some t.0.kept)
StartsDown before after f now (Err e) = after ≡ before

-- no frame came into a deque that held so many frames and has so much room. The slot is as it was, if it has no
-- session, or its session has no frame queued, or the deque isn't empty, or has less room than the session queues
-- frames. Else the session gave none, as its own step
abbrev pub GivesNoneDown : (old new : Option KeptDown) → (held room : ℕ) → Type 0
GivesNoneDown None after held room = after ≡ None
GivesNoneDown (Some s) after held room =
    ((after ≡ Some s) × ((s.state.queue ≡ []) ⊎ ((0 < held) ⊎ (room < s.state.limits.out))))
    ⊎ MakesDown (Some s) after (λ p q. TakeOutsStep p [] q)

-- so many frames came: all that the session had to send, as its own step, into an empty deque; or none, and the deque
-- has what it had
abbrev pub TakesOutDown : (old new : Option KeptDown) → (had : List FrameView) → (room : ℕ) → (has : List FrameView)
    → (came : ℕ) → Type 0
TakesOutDown before after had room has came =
    MatchBool (nat_lt 0 came)
    ((had ≡ []) × (came ≡ length has) × MakesDown before after (λ p q. TakeOutsStep p (frames_of has) q))
    ((has ≡ had) × GivesNoneDown before after (length had) room)

-- the history that was handed in can be the session's next one
abbrev pub FitsDown : (fresh : Log) → KeptDown → Type 0
FitsDown fresh s = fresh ≡ record { records = []; room = s.state.limits.history }

-- why the epoch didn't end: there is no session; or the history can't be its next one; or the session refused it, or
-- memory was
abbrev pub EndsNotDown : Option KeptDown → EpochEnd → (fresh : Log) → EpochRefused → Type 0
EndsNotDown None how fresh e = e.why ≡ NoSession
EndsNotDown (Some s) how fresh e =
    ((FitsDown fresh s → ⊥) → e.why ≡ Misfit) × (FitsDown fresh s → RefusesEndDown e.why how fresh s s e)

-- the history that ended stands behind the others; or nothing was done
abbrev pub EndsDown : Option KeptDown → Option KeptDown → EpochEnd → (fresh : Log) → Result (Unit {0}) EpochRefused
    → Type 0
EndsDown None after how fresh (Ok done) = ⊥
EndsDown (Some s) None how fresh (Ok done) = ⊥
EndsDown (Some s) (Some t) how fresh (Ok done) = EndsEpochDown how fresh s t (Ok done)
EndsDown before after how fresh (Err e) = (after ≡ before) × EndsNotDown before how fresh e
