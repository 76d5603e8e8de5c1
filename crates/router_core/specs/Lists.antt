-- The lists of a run as they are shown: what each step did, the oldest first.
use Rattle.std.specs.Prelude.{◌≡◌, ◌++◌, ◌==◌, ◌&&◌, Bool, ℕ, List, [], ◌∷◌, map, reverse, set, if◌then◌else◌, Option, Some, None}
use Rattle.std.specs.List.{slice_get}
use Rattle.mux_frame.specs.Spelling.{MuxFrame}
use Rattle.mux_history.specs.declared.session.SessionId.{SessionId}
use Rattle.mux_model.specs.Entries.{Exchange}
use Rattle.mux_model.specs.Steps.{entries as entries_of}
use Rattle.mux_model.specs.World.{Connection, same_session}
use Rattle.router_core.specs.declared.sides.Side.{Side}
use Rattle.router_core.specs.Entries.{first_entries}

pub record SideView : Type 0 where
  pub boot : ℕ
  pub session : SessionId
  pub entries : List Exchange

-- the list of a connection
abbrev pub side_of : Connection → SideView
side_of c = record { boot = c.boot; session = c.session; entries = reverse (entries_of c.steps) }

abbrev pub shown_side : Side → SideView
shown_side s = record { boot = s.boot; session = s.session; entries = s.entries.items }

abbrev pub shown : List Side → List SideView
shown sides = map shown_side sides

abbrev pub with_entry : Exchange → SideView → SideView
with_entry e s = record s { entries = s.entries ++ e ∷ [] }

abbrev pub is_side : ℕ → SessionId → SideView → Bool
is_side b id s = s.boot == b && same_session s.session id

-- one more entry in the list of a session
abbrev pub entered : ℕ → SessionId → Exchange → List SideView → List SideView
entered b id e [] = []
entered b id e (s ∷ ss) = if is_side b id s then with_entry e s ∷ ss else s ∷ entered b id e ss

abbrev pub entered_if : ℕ → SessionId → Option Exchange → List SideView → List SideView
entered_if b id None ss = ss
entered_if b id (Some e) ss = entered b id e ss

-- where the list of a session is
abbrev pub IsSideAt : ℕ → SessionId → List Side → Option ℕ → Type 0
IsSideAt b id ss None = (e : Exchange) → entered b id e (shown ss) ≡ shown ss
IsSideAt b id ss (Some i) =
    (s : Side) × (slice_get ss i ≡ Some s)
    × ((t : Side) (e : Exchange) → shown_side t ≡ with_entry e (shown_side s)
    → shown (set ss i t) ≡ entered b id e (shown ss))

-- one more list, with the first message of its session
abbrev pub IsOpened : (old new : List Side) → ℕ → SessionId → Option MuxFrame → Type 0
IsOpened old new boot id first =
    shown new ≡ shown old ++ record { boot = boot; session = id; entries = first_entries first } ∷ []
