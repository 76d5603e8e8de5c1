-- A session that is over, as its slot gives it up.
use Rattle.std.specs.Prelude.{◌≡◌, ◌⊎◌, true, false, Option, Some, None}
use Rattle.mux_history.specs.Readings.{has_ended}
use Rattle.mux_model.specs.Steps.{records}
use Rattle.server_session.specs.Past.{Past}
use Rattle.server_session.specs.State.{figures_in}
use Rattle.server_session.specs.Decide.{is_idle}
use Rattle.server_session.specs.Belonging.{Belongs}
use Rattle.client_session.specs.Past.{Past as UpPast}
use Rattle.client_session.specs.State.{figures_in as up_figures_in}
use Rattle.client_session.specs.Decide.{is_idle as is_up_idle}
use Rattle.client_session.specs.Belonging.{Belongs as BelongsUp}
use Rattle.kept_session.specs.Reached.{Kept}
use Rattle.kept_session.specs.ReachedDown.{KeptDown}

-- all records that it may have tell that it has ended, and it waits for nothing
abbrev pub IsOverDown : KeptDown → Type 0
IsOverDown s =
    ((p : Past) → Belongs s.state p → has_ended (records p.steps) ≡ true) × (is_idle (figures_in s.state) ≡ true)

-- they tell that it hasn't, or it waits for something; or there is no session
abbrev pub StaysDown : Option KeptDown → Type 0
StaysDown None = Unit {0}
StaysDown (Some s) =
    ((p : Past) → Belongs s.state p → has_ended (records p.steps) ≡ false) ⊎ (is_idle (figures_in s.state) ≡ false)

-- the session that was there came out, and is over; or nothing was done
abbrev pub LeavesDown : (old new : Option KeptDown) → Option KeptDown → Type 0
LeavesDown before after (Some s) = (before ≡ Some s) × (after ≡ None) × IsOverDown s
LeavesDown before after None = (after ≡ before) × StaysDown before

-- the same of a session towards a server
abbrev pub IsOver : Kept → Type 0
IsOver s =
    ((p : UpPast) → BelongsUp s.state p → has_ended (records p.steps) ≡ true)
    × (is_up_idle (up_figures_in s.state) ≡ true)

abbrev pub Stays : Option Kept → Type 0
Stays None = Unit {0}
Stays (Some s) =
    ((p : UpPast) → BelongsUp s.state p → has_ended (records p.steps) ≡ false)
    ⊎ (is_up_idle (up_figures_in s.state) ≡ false)

abbrev pub Leaves : (old new : Option Kept) → Option Kept → Type 0
Leaves before after (Some s) = (before ≡ Some s) × (after ≡ None) × IsOver s
Leaves before after None = (after ≡ before) × Stays before
