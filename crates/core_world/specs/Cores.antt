-- To which world a core belongs, and what an event makes of it.
use Rattle.std.specs.Prelude.{◌≡◌, ◌<◌, ℕ, List, length, None, Result, Ok, Err}
use Rattle.std.specs.Option.{option_map}
use Rattle.mux_history.specs.Bounds.{Bounds}
use Rattle.mux_history.specs.declared.session.SessionId.{SessionId}
use Rattle.mux_history.specs.declared.session.SessionId.TheVariants.{Client, Server}
use Rattle.mux_model.specs.World as world
use Rattle.mux_model.specs.World.{World, Connection, Reached}
use Rattle.mux_model.specs.Events as model
use Rattle.mux_model.specs.Events.{connection_at, happens, ChoosesFree}
use Rattle.core_world.specs.declared.events.Note.{Note}
use Rattle.core_world.specs.declared.events.Note.TheVariants as notes
use Rattle.core_world.specs.declared.events.Event.{Event}
use Rattle.core_world.specs.declared.calls.Gave.{Gave}
use Rattle.core_world.specs.declared.refusal.EventRefusal.{EventRefusal}
use Rattle.core_world.specs.Hands.{held_of, shown}
use Rattle.core_world.specs.Sides.{Pointwise}
use Rattle.core_world.specs.Events.{Tells, IsRefusedBy}

-- a core: its sessions by their numbers from 1 on, the values in hand, and the number of the next one
pub record CoreView (C S : Type 0) : Type 0 where
  pub boot : ℕ
  pub limits : Bounds
  pub clients : List C
  pub servers : List S
  pub hands : List world.Hand
  pub next_hand : ℕ

-- `P` and `Q` say which connection a client's session is, and a server's
pub record IsCoreOf {C S : Type 0} (P : Bounds → ℕ → C → Connection → Type 0) (Q : Bounds → ℕ → S → Connection → Type 0)
    (v : CoreView C S) (w : World) : Type 0 where
  pub boot : v.boot ≡ w.boot
  pub limits : v.limits ≡ w.limits
  pub client_count : length v.clients ≡ w.clients
  pub server_count : length v.servers ≡ w.servers
  pub clients : Pointwise (P w.limits) Client v.clients w.boot w.connections
  pub servers : Pointwise (Q w.limits) Server v.servers w.boot w.connections
  -- no connection is of a boot to come
  pub later : (b : ℕ) (id : SessionId) → w.boot < b → connection_at b id w.connections ≡ None
  pub hands : v.hands ≡ w.hands
  pub next_hand : v.next_hand ≡ w.next_hand
  -- events have led to the world
  pub reached : Reached w

-- one event of the world, with the tag that an offer chose
abbrev pub Lands : {V : Type 0} → (V → World → Type 0) → World → model.Event → Note → V → Type 0
Lands IsOf w event note new =
    (t : ℕ) × (after : World) × (happens w t event ≡ Ok after) × ChoosesFree w t event × Tells w t event note
    × IsOf new after

abbrev pub StepsTo : {V : Type 0} → (V → World → Type 0) → World → model.Event → Result Note (EventRefusal × Event)
    → V → Type 0
StepsTo IsOf w event (Ok note) new = Lands IsOf w event note new
StepsTo IsOf w event (Err e) new = (t : ℕ) × IsRefusedBy w event (happens w t event) e.0

-- the note of what a call gave, where the next value gets this number
abbrev pub note_of : ℕ → Gave → Note
note_of n g = notes.Told g.told (option_map (λ h. shown (record { number = n; held = held_of h })) g.given)
