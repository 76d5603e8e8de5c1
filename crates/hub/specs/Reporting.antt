-- What a report tells of the sessions.
use Rattle.std.specs.Prelude.{◌≡◌, ◌++◌, ℕ, List, [], ◌∷◌, All, IsPermutation, Option, Some, None, length}
use Rattle.kept_session.specs.Reached.{Kept}
use Rattle.kept_session.specs.ReachedDown.{KeptDown}
use Rattle.hub_steps.specs.declared.figures.DownFigures.{DownFigures}
use Rattle.hub_steps.specs.declared.figures.UpFigures.{UpFigures}
use Rattle.hub_steps.specs.Down.{MayKeepDown}
use Rattle.hub_steps.specs.Figures.{TellsDown, TellsUp}
use Rattle.hub_steps.specs.Up.{MayKeep}
use Rattle.hub.specs.declared.admin.Row.{Row}
use Rattle.hub.specs.declared.admin.Row.TheVariants.{Client, Server}

-- the row of this session says what its figures tell
abbrev pub IsOfClient : KeptDown → Row → Type 0
IsOfClient s (Client number word entries held) =
    (s.state.client ≡ number) × (f : DownFigures) × TellsDown s f
    × (f.word ≡ word) × (f.entries ≡ entries) × (f.records ≡ held)
IsOfClient s (Server name word load held) = ⊥

abbrev pub IsOfServer : Kept → Row → Type 0
IsOfServer s (Server name word load held) =
    (f : UpFigures) × TellsUp s f × (f.word ≡ word) × (f.load ≡ load) × (f.records ≡ held)
IsOfServer s (Client number word entries held) = ⊥

-- the row of a slot's session was put behind the others; a slot with none has no row
abbrev pub AddsRow : {S : Type 0} (Is : S → Row → Type 0) → Option S → (old new : List Row) → Type 0
AddsRow Is None old new = new ≡ old
AddsRow Is (Some s) old new = (row : Row) × Is s row × (new ≡ old ++ row ∷ [])

-- the rows of these slots, one after another
pub data AreOf {S : Type 0} (Is : S → Row → Type 0) : List (Option S) → List Row → Type 0 where
  none : AreOf Is [] []
  next : {ss : List (Option S)} {rows : List Row} (s : Option S) (new : List Row)
      → AddsRow Is s rows new → AreOf Is ss rows → AreOf Is (ss ++ s ∷ []) new

-- the rows of so many slots were put behind the others, each slot in a state that a lock may keep
abbrev pub AddsRows : {S : Type 0} (May : Option S → Type 0) (Is : S → Row → Type 0)
    → (slots : ℕ) → (old new : List Row) → Type 0
AddsRows {S} May Is slots old new =
    (ss : List (Option S)) × (more : List Row)
    × (length ss ≡ slots) × All May ss × AreOf Is ss more × (new ≡ old ++ more)

-- one row at most for each of so many clients' slots, in whatever order, and behind them for each of so many servers'
abbrev pub AreRows : (clients servers : ℕ) → List Row → Type 0
AreRows clients servers rows =
    (found : List Row) × (front : List Row) × AddsRows MayKeepDown IsOfClient clients [] found
    × IsPermutation found front × AddsRows MayKeep IsOfServer servers front rows
