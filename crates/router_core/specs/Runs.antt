-- A run of events, and the lists that it leaves.
use Rattle.std.specs.Prelude.{◌≡◌, ◌+◌, ℕ, Bool, List, [], ◌∷◌, map, is_err, Option, Some, None, Result, Ok, Err, IfOk, IfSome}
use Rattle.mux_frame.specs.Spelling.{MuxFrame}
use Rattle.mux_frame.specs.Views.{FrameView}
use Rattle.mux_model.specs.Entries.{Exchange, said_by}
use Rattle.mux_history.specs.Bounds.{Bounds}
use Rattle.mux_history.specs.declared.session.SessionId.{SessionId}
use Rattle.mux_model.specs.Steps.{Call}
use Rattle.mux_model.specs.World.{World, Connection, start}
use Rattle.mux_model.specs.Events as model
use Rattle.mux_model.specs.Events.{connection_at, happens, run, world_or, AllChooseFree, ChoosesFree}
use Rattle.core_world.specs.declared.events.Event.{Event}
use Rattle.core_world.specs.declared.events.Note.{Note}
use Rattle.core_world.specs.Hands.{shown}
use Rattle.core_world.specs.Events.{IsReadEvent, call_in, Tells}
use Rattle.router_core.specs.declared.entering.Look.{Look}
use Rattle.router_core.specs.declared.meeting.Met.{Met}
use Rattle.router_core.specs.declared.sides.Side.{Side}
use Rattle.router_core.specs.declared.sides.Run.{Run}
use Rattle.router_core.specs.Entries.{IsLook, entry_by, last_out, frame_in}
use Rattle.router_core.specs.Lists.{shown as shown_sides, SideView, side_of, entered_if}
use Rattle.router_core.specs.Promises.{KeepsPromises}
use Rattle.router_core.specs.Worlds.{CoreView, IsCoreOf}

abbrev pub AllRead : List Event → Type 0
AllRead [] = Unit {0}
AllRead (e ∷ es) = IsReadEvent e × AllRead es

-- the lists are those of the world
abbrev pub Shows : List Side → World → Type 0
Shows sides w = shown_sides sides ≡ map side_of w.connections

-- the places of the events that are refused, counted from `place`
abbrev pub with_place : ℕ → Result World model.EventRefusal → List ℕ → List ℕ
with_place place (Ok w) later = later
with_place place (Err why) later = place ∷ later

abbrev pub refused_from : ℕ → World → List (ℕ × model.Event) → List ℕ
refused_from place w [] = []
refused_from place w (e ∷ es) =
    with_place place (happens w e.0 e.1) (refused_from (place + 1) (world_or w (happens w e.0 e.1)) es)

-- what a run of these events leaves; each event has the tag that its offer chose
pub record IsRunOf (limits : Bounds) (boot : ℕ) (events : List model.Event) (r : Run) : Type 0 where
  pub chosen : List (ℕ × model.Event)
  pub same : map (λ (e : ℕ × model.Event). e.1) chosen ≡ events
  pub free : AllChooseFree (start limits boot) chosen
  pub sides : Shows r.sides.items (run (start limits boot) chosen)
  pub hands : r.hands.items ≡ map shown (run (start limits boot) chosen).hands
  pub refused : r.refused.items ≡ refused_from 0 (start limits boot) chosen
  -- THE HEADLINE, of these lists
  pub promises : KeepsPromises limits (run (start limits boot) chosen).connections

-- the session that an event goes to was looked at
abbrev pub MetAt : SessionId → Connection → Option Met → Type 0
MetAt id c None = ⊥
MetAt id c (Some m) = (m.session ≡ id) × IsLook m.look c

abbrev pub IsMet : World → model.Event → Option Met → Type 0
IsMet w event met =
    (a : SessionId × Call) → call_in w.hands event ≡ Some a → (c : Connection)
    → connection_at w.boot a.0 w.connections ≡ Some c → MetAt a.0 c met

-- what a step that was recorded left goes into its session's list
abbrev pub Records : World → Option Met → (handed : Option MuxFrame) → (old new : List SideView) → Type 0
Records w met handed old new =
    (m : Met) → met ≡ Some m → (c : Connection) → connection_at w.boot m.session w.connections ≡ Some c
    → (after : Look) × IsLook after c
    × (new ≡ entered_if w.boot m.session (entry_by m.look after handed (last_out c)) old)

abbrev pub RecordsIn : {X : Type 0} → CoreView → Option Met → Option MuxFrame → (old new : List Side)
    → Result (Unit {0}) X → Type 0
RecordsIn {X} v met handed old new r =
    (w : World) → IsCoreOf v w → IfOk r (λ u. Records w met handed (shown_sides old) (shown_sides new))

abbrev pub FindsEntry : {X : Type 0} → CoreView → Met → Option MuxFrame → Result (Option Exchange) X → Type 0
FindsEntry {X} v met handed r =
    (w : World) → IsCoreOf v w → (c : Connection) → connection_at w.boot met.session w.connections ≡ Some c
    → IfOk r (λ e. (after : Look) × IsLook after c × (e ≡ entry_by met.look after handed (last_out c)))

abbrev pub GivesLast : {X : Type 0} → CoreView → SessionId → Result (Option FrameView) X → Type 0
GivesLast {X} v id r =
    (w : World) → IsCoreOf v w
    → IfOk r (λ f. IfSome (connection_at w.boot id w.connections) (λ c. said_by f ≡ last_out c))

-- an event that was accepted, and what was read before it
pub record Accepted (w done : World) (event : model.Event) (note : Note) (met : Option Met) (handed : Option MuxFrame)
    : Type 0 where
  pub tag : ℕ
  pub does : happens w tag event ≡ Ok done
  pub tells : Tells w tag event note
  pub looked : IsMet w event met
  pub frame : handed ≡ frame_in event

-- the lists after it
abbrev pub ShowsAfter : {X : Type 0} → CoreView → (old new : List Side) → model.Event → Note → Option Met
    → Option MuxFrame → Result (Unit {0}) X → Type 0
ShowsAfter {X} v old new event note met handed r =
    (w done : World) → Shows old w → Accepted w done event note met handed → IsCoreOf v done
    → IfOk r (λ u. Shows new done)

-- one event of a run, and whether it was refused
abbrev pub Plays : (old new : CoreView) → (before after : List Side) → model.Event → (refused : Bool) → Type 0
Plays old new before after event refused =
    (w : World) → IsCoreOf old w → Shows before w
    → (t : ℕ) × (refused ≡ is_err (happens w t event)) × ChoosesFree w t event
    × IsCoreOf new (world_or w (happens w t event))
    × Shows after (world_or w (happens w t event))
