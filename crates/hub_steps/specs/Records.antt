-- What the session of a slot has recorded.
use Rattle.std.specs.Prelude.{◌≡◌, List, [], Option, Some, None}
use Rattle.mux_history.specs.Counting.{IsCount}
use Rattle.mux_history.specs.declared.counts.KindCounts.{KindCounts}
use Rattle.mux_history.specs.declared.record.Record.{Record}
use Rattle.client_session.specs.Past.{Past, delays_of}
use Rattle.client_session.specs.Belonging.{Belongs}
use Rattle.kept_session.specs.Histories.{all_of}
use Rattle.kept_session.specs.Reached.{Kept}
use Rattle.kept_session.specs.ReachedDown.{KeptDown}
use Rattle.hub_steps.specs.declared.records.UpCounts.{UpCounts}

-- over all its epochs, the oldest first; nothing, if the slot has no session
abbrev pub down_past : Option KeptDown → List Record
down_past None = []
down_past (Some s) = all_of s.ended s.state.records

abbrev pub up_past : Option Kept → List Record
up_past None = []
up_past (Some s) = all_of s.ended s.state.records

-- how many of these records are of each kind that is counted; nothing, if the slot has no session
abbrev pub CountsDown : Option KeptDown → Option KindCounts → Type 0
CountsDown None None = Unit {0}
CountsDown None (Some counts) = ⊥
CountsDown (Some s) None = ⊥
CountsDown (Some s) (Some counts) = IsCount counts (down_past (Some s))

-- the same, and how long the dispatches took that were answered
abbrev pub CountsUp : Option Kept → Option UpCounts → Type 0
CountsUp None None = Unit {0}
CountsUp None (Some counts) = ⊥
CountsUp (Some s) None = ⊥
CountsUp (Some s) (Some counts) =
    IsCount counts.steps (up_past (Some s))
    × ((p : Past) → Belongs s.state p → counts.delays ≡ delays_of p.steps)
