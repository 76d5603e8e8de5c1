-- The sessions of one side by their numbers, from 1 on, and the connections that they are.
use Rattle.std.specs.Prelude.{◌≡◌, ◌+◌, ℕ, zero, suc, List, Option, Some, None, set}
use Rattle.std.specs.List.{slice_get}
use Rattle.mux_frame.specs.Spelling.{MuxFrame}
use Rattle.mux_frame.specs.Views.{FrameView}
use Rattle.mux_history.specs.Bounds.{Bounds}
use Rattle.mux_history.specs.declared.session.SessionId.{SessionId}
use Rattle.mux_model.specs.Steps.{Call}
use Rattle.mux_model.specs.Entries.{said_by}
use Rattle.mux_model.specs.World.{Connection, next_out}
use Rattle.mux_model.specs.Events.{connection_at}
use Rattle.core_world.specs.declared.calls.Gave.{Gave}
use Rattle.core_world.specs.declared.refusal.EventRefusal.{EventRefusal}
use Rattle.core_world.specs.declared.refusal.EventRefusal.TheVariants as refusals
use Rattle.core_world.specs.Calls.{Leads, TurnsAway}

-- a session is where a connection is, and is that connection
abbrev pub At : {S : Type 0} → (S → Connection → Type 0) → Option S → Option Connection → Type 0
At P None None = Unit {0}
At P (Some s) (Some c) = P s c
At P _ _ = ⊥

abbrev pub session_at : {S : Type 0} → List S → ℕ → Option S
session_at xs zero = None
session_at xs (suc k) = slice_get xs k

abbrev pub put_at : {S : Type 0} → List S → ℕ → S → List S
put_at xs zero s = xs
put_at xs (suc k) s = set xs k s

-- each session of a list is the connection of this boot that has its number
abbrev pub Pointwise : {S : Type 0} → (ℕ → S → Connection → Type 0) → (ℕ → SessionId) → List S → ℕ → List Connection
    → Type 0
Pointwise P side xs b cs = (k : ℕ) → At (P k) (session_at xs k) (connection_at b (side k) cs)

-- one session of the list does a call, and the others stay
abbrev pub CallsOne : {S : Type 0} → (Bounds → ℕ → S → Connection → Type 0) → (old new : List S) → ℕ → Call → Gave
    → Type 0
CallsOne {S} P old new number call g =
    (s : S) × (t : S) × (session_at old number ≡ Some s) × (new ≡ put_at old number t) × Leads P s t call g

-- a call of one session of the list is refused
abbrev pub RefusesOne : {S : Type 0} → (Bounds → ℕ → S → Connection → Type 0) → List S → ℕ → Call → EventRefusal
    → Type 0
RefusesOne {S} P xs number call refusals.NoSuchSession = session_at xs number ≡ None
RefusesOne {S} P xs number call why = (s : S) × (session_at xs number ≡ Some s) × TurnsAway P s call why

-- a frame that is taken out
abbrev pub with_out : Connection → Option MuxFrame → Connection
with_out c None = c
with_out c (Some f) = record c { out = c.out + 1 }

abbrev pub GivesOut : {S : Type 0} → (Bounds → ℕ → S → Connection → Type 0) → (old new : S) → Option MuxFrame → Type 0
GivesOut {S} P old new frame =
    (limits : Bounds) (number : ℕ) (c : Connection) → P limits number old c
    → (next_out c ≡ frame) × P limits number new (with_out c frame)

-- a frame is taken out of one session of the list
abbrev pub TakesFromOne : {S : Type 0} → (Bounds → ℕ → S → Connection → Type 0) → (old new : List S) → ℕ
    → Option (Option FrameView) → Type 0
TakesFromOne {S} P old new number None = (session_at old number ≡ None) × (new ≡ old)
TakesFromOne {S} P old new number (Some frame) =
    (s : S) × (t : S) × (session_at old number ≡ Some s) × (new ≡ put_at old number t) × GivesOut P s t (said_by frame)
