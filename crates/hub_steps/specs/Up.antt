-- What a slot keeps of a session towards a server, and the steps that are made on it.
use Rattle.std.specs.Prelude.{◌≡◌, ◌<◌, ◌⊎◌, ℕ, List, [], MatchBool, length, nat_lt, slice_get, IfSome, Option, Some, None, Result, Ok, Err}
use Rattle.mux_frame.specs.Views.{FrameView}
use Rattle.mux_history.specs.Log.{Log}
use Rattle.client_session.specs.declared.answers.UpStep.{UpStep}
use Rattle.client_session.specs.Past.{Past}
use Rattle.client_session.specs.Steps.{FrameStep, TakeOutsStep}
use Rattle.kept_session.specs.declared.ending.EpochEnd.{EpochEnd}
use Rattle.kept_session.specs.declared.ending.EpochRefusal.TheVariants.{Misfit, NoSession}
use Rattle.kept_session.specs.declared.ending.EpochRefused.{EpochRefused}
use Rattle.kept_session.specs.Ending.{EndsEpoch, RefusesEnd}
use Rattle.kept_session.specs.Reached.{IsKept, Kept, StepsBy, WereKept}
use Rattle.hub_close.specs.declared.receipt.Stub.{Stub}
use Rattle.hub_base.specs.declared.fault.HubFault.{HubFault}

-- what a slot may keep: no session, or one that its own calls led to its state, with the records of such sessions as
-- the histories that ended
abbrev pub MayKeep : Option Kept → Type 0
MayKeep None = Unit {0}
MayKeep (Some s) = WereKept s.ended × IsKept s

-- how many records the present history has
abbrev pub held : Option Kept → ℕ
held None = 0
held (Some s) = length s.state.records

-- how many frames wait to be sent
abbrev pub queued : Option Kept → ℕ
queued None = 0
queued (Some s) = length s.state.queue

-- the session has made this step; a slot with no session stays so
abbrev pub Makes : Option Kept → Option Kept → (Past → Past → Type 0) → Type 0
Makes None after R = after ≡ None
Makes (Some s) None R = ⊥
Makes (Some s) (Some t) R = StepsBy s t R

-- the first step of a frame is the session's own, and its receipt has the first record that the step left; or nothing was
-- done
abbrev pub Starts : Option Kept → Option Kept → FrameView → ℕ → Result (Stub × UpStep) HubFault → Type 0
Starts None after f now (Ok t) = ⊥
Starts (Some s) after f now (Ok t) =
    Makes (Some s) after (λ p q. FrameStep p f now (Ok t.1) q)
    × (t.0.epoch ≡ s.state.epoch) × (t.0.place ≡ length s.state.records)
    × IfSome after (λ u. slice_get u.state.records t.0.place ≡ Some t.0.kept)
Starts before after f now (Err e) = after ≡ before

-- no frame came into a deque that held so many frames and has so much room. The slot is as it was, if it has no
-- session, or its session has no frame queued, or the deque isn't empty, or has less room than the session queues
-- frames. Else the session gave none, as its own step
abbrev pub GivesNone : (old new : Option Kept) → (held room : ℕ) → Type 0
GivesNone None after held room = after ≡ None
GivesNone (Some s) after held room =
    ((after ≡ Some s) × ((s.state.queue ≡ []) ⊎ ((0 < held) ⊎ (room < s.state.limits.out))))
    ⊎ Makes (Some s) after (λ p q. TakeOutsStep p [] q)

-- so many frames came: all that the session had to send, as its own step, into an empty deque; or none, and the deque
-- has what it had
abbrev pub TakesOut : (old new : Option Kept) → (had : List FrameView) → (room : ℕ) → (has : List FrameView)
    → (came : ℕ) → Type 0
TakesOut before after had room has came =
    MatchBool (nat_lt 0 came)
    ((had ≡ []) × (came ≡ length has) × Makes before after (λ p q. TakeOutsStep p has q))
    ((has ≡ had) × GivesNone before after (length had) room)

-- the history that was handed in can be the session's next one
abbrev pub Fits : (fresh : Log) → Kept → Type 0
Fits fresh s = fresh ≡ record { records = []; room = s.state.limits.history }

-- why the epoch didn't end: there is no session; or the history can't be its next one; or the session refused it, or
-- memory was
abbrev pub EndsNot : Option Kept → EpochEnd → (fresh : Log) → EpochRefused → Type 0
EndsNot None how fresh e = e.why ≡ NoSession
EndsNot (Some s) how fresh e =
    ((Fits fresh s → ⊥) → e.why ≡ Misfit) × (Fits fresh s → RefusesEnd e.why how fresh s s e)

-- the history that ended stands behind the others; or nothing was done
abbrev pub Ends : Option Kept → Option Kept → EpochEnd → (fresh : Log) → Result (Unit {0}) EpochRefused → Type 0
Ends None after how fresh (Ok done) = ⊥
Ends (Some s) None how fresh (Ok done) = ⊥
Ends (Some s) (Some t) how fresh (Ok done) = EndsEpoch how fresh s t (Ok done)
Ends before after how fresh (Err e) = (after ≡ before) × EndsNot before how fresh e
