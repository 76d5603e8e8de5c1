-- The world of a core.
use Rattle.std.specs.Prelude.{ℕ, List, [], Result}
use Rattle.mux_history.specs.Bounds.{Bounds}
use Rattle.mux_model.specs.World.{World, start}
use Rattle.mux_model.specs.Events as model
use Rattle.mux_model.specs.Events.{run, AllChooseFree}
use Rattle.mux_model.specs.Runs.{lines}
use Rattle.mux_model.specs.Legal.{IsLegal}
use Rattle.client_session.specs.State.{State as UpState}
use Rattle.server_session.specs.State.{State as DownState}
use Rattle.core_world.specs.declared.events.Event.{Event}
use Rattle.core_world.specs.declared.events.Note.{Note}
use Rattle.core_world.specs.declared.refusal.EventRefusal.{EventRefusal}
use Rattle.core_world.specs.Cores as cores
use Rattle.router_core.specs.Sides.{UpAt, DownAt}

abbrev pub CoreView : Type 0
CoreView = cores.CoreView DownState UpState

-- a core with no session
abbrev pub begun : Bounds → ℕ → CoreView
begun limits boot = record { boot = boot; limits = limits; clients = []; servers = []; hands = []; next_hand = 1 }

abbrev pub IsCoreOf : CoreView → World → Type 0
IsCoreOf v w = cores.IsCoreOf DownAt UpAt v w

abbrev pub StepsTo : World → model.Event → Result Note (EventRefusal × Event) → CoreView → Type 0
StepsTo w event result new = cores.StepsTo IsCoreOf w event result new

abbrev pub Lands : World → model.Event → Note → CoreView → Type 0
Lands w event note new = cores.Lands IsCoreOf w event note new

-- whatever world the core is of, this is one event of it
abbrev pub Steps : (old new : CoreView) → model.Event → Result Note (EventRefusal × Event) → Type 0
Steps old new event result = (w : World) → IsCoreOf old w → StepsTo w event result new

-- events have led to a world that is the core's
abbrev pub IsKept : CoreView → Type 0
IsKept v =
    (limits : Bounds) × (boot : ℕ) × (events : List (ℕ × model.Event)) × AllChooseFree (start limits boot) events
    × IsCoreOf v (run (start limits boot) events)

-- the lists of every world of the core are a legal run
abbrev pub IsLegalCore : CoreView → Type 0
IsLegalCore v = (w : World) → IsCoreOf v w → IsLegal v.limits.retries (lines w.connections)
