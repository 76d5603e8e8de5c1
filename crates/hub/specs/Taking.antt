-- What a call takes out of a session.
use Rattle.std.specs.Prelude.{◌≡◌, ℕ, List, Option, None}
use Rattle.mux_frame.specs.Views.{FrameView}
use Rattle.mux_history.specs.declared.session.SessionId.{SessionId}
use Rattle.mux_history.specs.declared.session.SessionId.TheVariants.{Client, Server}
use Rattle.client_session.specs.Steps as up
use Rattle.server_session.specs.Steps as down
use Rattle.kept_session.specs.ReachedDown.{KeptDown}
use Rattle.hub_places.specs.Numbering.{KeepsDown, KeepsUp}
use Rattle.hub_slots.specs.Locked.{LockedDown, LockedUp}
use Rattle.hub_steps.specs.Down.{TakesOutDown}
use Rattle.kept_session.specs.Reached.{Kept}
use Rattle.hub_steps.specs.Up.{TakesOut}

-- so many frames came out of this session into a deque that had some frames and has so much room, in states that a lock
-- may keep. A session that isn't there is like a slot with none
abbrev pub IsTakenOut : SessionId → (had : List FrameView) → (room : ℕ) → (has : List FrameView) → (came : ℕ) → Type 0
IsTakenOut (Client number) had room has came =
    (s : Option KeptDown) × (t : Option KeptDown)
    × TakesOutDown s t had room has came × KeepsDown number s × KeepsDown number t
IsTakenOut (Server number) had room has came =
    (s : Option Kept) × (t : Option Kept) × TakesOut s t had room has came × KeepsUp number s × KeepsUp number t

-- the next frame of this session, or none, by its own step, in states that a lock may keep
abbrev pub IsNextOut : SessionId → Option FrameView → Type 0
IsNextOut (Client number) next = LockedDown (KeepsDown number) (λ p q. down.TakeOutStep p next q) (next ≡ None)
IsNextOut (Server number) next = LockedUp (KeepsUp number) (λ p q. up.TakeOutStep p next q) (next ≡ None)
