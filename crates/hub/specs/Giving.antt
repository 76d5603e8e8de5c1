-- What a session gives up.
use Rattle.std.specs.Prelude.{ℕ, List, Option}
use Rattle.mux_history.specs.Log.{Log}
use Rattle.mux_history.specs.declared.session.SessionId.{SessionId}
use Rattle.mux_history.specs.declared.session.SessionId.TheVariants.{Client, Server}
use Rattle.kept_session.specs.Reached.{Kept}
use Rattle.kept_session.specs.ReachedDown.{KeptDown}
use Rattle.hub_places.specs.Numbering.{KeepsDown, KeepsUp}
use Rattle.hub_steps.specs.Giving.{TakesEnded, TakesEndedDown}

-- the histories that had ended came out of this session into a list that had some and has so much room, in states that
-- a lock may keep, or nothing was done. A session that isn't there is like a slot with none
abbrev pub AreGivenUp : SessionId → (had : List Log) → (room : ℕ) → (has : List Log) → (first : Option ℕ) → Type 0
AreGivenUp (Client number) had room has first =
    (s : Option KeptDown) × (t : Option KeptDown)
    × TakesEndedDown s t had room has first × KeepsDown number s × KeepsDown number t
AreGivenUp (Server number) had room has first =
    (s : Option Kept) × (t : Option Kept) × TakesEnded s t had room has first × KeepsUp number s × KeepsUp number t
