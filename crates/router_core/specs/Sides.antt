-- Which connection of a world a session of the core is.
use Rattle.std.specs.Prelude.{◌≡◌, ℕ, List, length, Result, Ok, Err}
use Rattle.mux_frame.specs.Spelling.{MuxFrame}
use Rattle.mux_history.specs.Bounds.{Bounds}
use Rattle.mux_history.specs.declared.session.SessionId.TheVariants.{Client, Server}
use Rattle.mux_model.specs.Steps.{Call}
use Rattle.mux_model.specs.World.{Connection}
use Rattle.client_session.specs.State.{State as UpState}
use Rattle.client_session.specs.Past.{Past as UpPast}
use Rattle.client_session.specs.Belonging.{Belongs as BelongsUp}
use Rattle.server_session.specs.State.{State as DownState}
use Rattle.server_session.specs.Past.{Past as DownPast}
use Rattle.server_session.specs.Belonging.{Belongs as BelongsDown}
use Rattle.core_world.specs.declared.calls.Gave.{Gave}
use Rattle.core_world.specs.declared.refusal.EventRefusal.{EventRefusal}
use Rattle.core_world.specs.Calls.{Leads, TurnsAway}
use Rattle.core_world.specs.Sides.{CallsOne, RefusesOne}

-- the past of a connection towards a server, by the frames that were taken out of it
abbrev pub up_past : Bounds → ℕ → Connection → List MuxFrame → UpPast
up_past limits number c out =
    record { session = record { limits = limits; number = number; mode = c.mode }; steps = c.steps; out = out }

pub record UpAt (limits : Bounds) (number : ℕ) (s : UpState) (c : Connection) : Type 0 where
  pub session : c.session ≡ Server number
  pub out : List MuxFrame
  pub count : length out ≡ c.out
  pub belongs : BelongsUp s (up_past limits number c out)

abbrev pub down_past : Bounds → ℕ → Connection → List MuxFrame → DownPast
down_past limits number c out =
    record { session = record { limits = limits; boot = c.boot; number = number }; steps = c.steps; out = out }

pub record DownAt (limits : Bounds) (number : ℕ) (s : DownState) (c : Connection) : Type 0 where
  pub session : c.session ≡ Client number
  pub out : List MuxFrame
  pub count : length out ≡ c.out
  pub belongs : BelongsDown s (down_past limits number c out)

-- a call of a session, and what it answers
abbrev pub Does : {S X : Type 0} → (Bounds → ℕ → S → Connection → Type 0) → (old new : S) → Call
    → Result Gave (EventRefusal × X) → Type 0
Does {S} {X} P old new call (Ok g) = Leads P old new call g
Does {S} {X} P old new call (Err e) = TurnsAway P old call e.0

-- a call of one session of a list
abbrev pub DoesOne : {S X : Type 0} → (Bounds → ℕ → S → Connection → Type 0) → (old new : List S) → ℕ → Call
    → Result Gave (EventRefusal × X) → Type 0
DoesOne {S} {X} P old new number call (Ok g) = CallsOne P old new number call g
DoesOne {S} {X} P old new number call (Err e) = RefusesOne P old number call e.0
