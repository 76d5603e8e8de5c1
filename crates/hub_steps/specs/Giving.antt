-- The histories that ended, as a slot gives them up.
use Rattle.std.specs.Prelude.{◌≡◌, ◌+◌, ◌<◌, ◌⊎◌, ℕ, List, [], length, Option, Some, None}
use Rattle.mux_history.specs.Log.{Log}
use Rattle.kept_session.specs.Reached.{Kept, WereKept}
use Rattle.kept_session.specs.ReachedDown.{KeptDown, WereKeptDown}

-- the session has these no more: they are all that had ended and were there, and the first was that of this epoch
abbrev pub GivesUpDown : Option KeptDown → Option KeptDown → (first : ℕ) → List Log → Type 0
GivesUpDown None after first logs = ⊥
GivesUpDown (Some s) after first logs =
    (after ≡ Some (record s { ended = [] })) × (logs ≡ s.ended) × (first + length logs ≡ s.state.epoch)

-- there is no session, or none has ended, or the list for them isn't empty, or has no room
abbrev pub HoldsBackDown : Option KeptDown → (held room : ℕ) → Type 0
HoldsBackDown None held room = Unit {0}
HoldsBackDown (Some s) held room = (s.ended ≡ []) ⊎ ((0 < held) ⊎ (room ≡ 0))

-- they came into an empty list, each that of a session that was kept; or nothing was done, into one with this room
abbrev pub TakesEndedDown : (old new : Option KeptDown) → (had : List Log) → (room : ℕ) → (has : List Log) → Option ℕ
    → Type 0
TakesEndedDown before after had room has (Some first) =
    (had ≡ []) × GivesUpDown before after first has × WereKeptDown has
TakesEndedDown before after had room has None =
    (after ≡ before) × (has ≡ had) × HoldsBackDown before (length had) room

-- the same of a session towards a server
abbrev pub GivesUp : Option Kept → Option Kept → (first : ℕ) → List Log → Type 0
GivesUp None after first logs = ⊥
GivesUp (Some s) after first logs =
    (after ≡ Some (record s { ended = [] })) × (logs ≡ s.ended) × (first + length logs ≡ s.state.epoch)

abbrev pub HoldsBack : Option Kept → (held room : ℕ) → Type 0
HoldsBack None held room = Unit {0}
HoldsBack (Some s) held room = (s.ended ≡ []) ⊎ ((0 < held) ⊎ (room ≡ 0))

abbrev pub TakesEnded : (old new : Option Kept) → (had : List Log) → (room : ℕ) → (has : List Log) → Option ℕ → Type 0
TakesEnded before after had room has (Some first) = (had ≡ []) × GivesUp before after first has × WereKept has
TakesEnded before after had room has None =
    (after ≡ before) × (has ≡ had) × HoldsBack before (length had) room
