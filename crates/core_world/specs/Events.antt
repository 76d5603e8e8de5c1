-- Events as the world has them, and what an accepted one tells.
use Rattle.std.specs.Prelude.{◌≡◌, ◌+◌, ℕ, Bool, true, false, List, [], ◌∷◌, Option, Some, None, Result, Err, nat_le}
use Rattle.mux_frame.specs.Spelling.{MuxFrame}
use Rattle.mux_history.specs.declared.session.SessionId.{SessionId}
use Rattle.mux_history.specs.declared.session.SessionId.TheVariants.{Client, Server}
use Rattle.mux_model.specs.Entries.{said_by}
use Rattle.mux_model.specs.Steps.{Held, Call}
use Rattle.mux_model.specs.World as world
use Rattle.mux_model.specs.World.{World, Connection, outcome, next_out}
use Rattle.mux_model.specs.Events as model
use Rattle.mux_model.specs.Events.{connection_at, hand_at, without_hand, plain_call, spent}
use Rattle.core_world.specs.declared.calls.Told.{Told}
use Rattle.core_world.specs.declared.calls.Told.TheVariants as told
use Rattle.core_world.specs.declared.hands.Hand.{Hand}
use Rattle.core_world.specs.declared.events.Event.{Event}
use Rattle.core_world.specs.declared.events.Event.TheVariants as events
use Rattle.core_world.specs.declared.events.Use.{Use}
use Rattle.core_world.specs.declared.events.Use.TheVariants as uses
use Rattle.core_world.specs.declared.events.Note.{Note}
use Rattle.core_world.specs.declared.events.Note.TheVariants as notes
use Rattle.core_world.specs.declared.refusal.EventRefusal.{EventRefusal}
use Rattle.core_world.specs.declared.refusal.EventRefusal.TheVariants as refusals
use Rattle.core_world.specs.Hands.{shown}
use Rattle.core_world.specs.Refusals.{refusal_of}
use Rattle.core_world.specs.Calls.{bare_up, bare_down, IsReadServer, IsReadClient, told_of, gives_in, grows_by}

abbrev pub use_of : Use → model.Use
use_of (uses.Offer server now) = model.Offer server now
use_of uses.Note = model.Note
use_of uses.Settle = model.Settle
use_of uses.Nack = model.Nack
use_of uses.Unroute = model.Unroute
use_of uses.Fail = model.Fail
use_of (uses.Recall now) = model.Recall now

abbrev pub event_of : Event → model.Event
event_of events.OpenClient = model.OpenClient
event_of (events.OpenServer mode) = model.OpenServer mode
event_of (events.Client number step) = model.On (Client number) (bare_down step)
event_of (events.Server number step) = model.On (Server number) (bare_up step)
event_of (events.Spend hand by) = model.Spend hand (use_of by)
event_of (events.TakeOut session) = model.TakeOutOf session
event_of events.Restart = model.Restart

abbrev pub IsReadEvent : Event → Type 0
IsReadEvent (events.Client number step) = IsReadClient step
IsReadEvent (events.Server number step) = IsReadServer step
IsReadEvent _ = Unit {0}

-- the session that an event goes to, and its call
abbrev pub spent_by : model.Use → Option world.Hand → Option (SessionId × Call)
spent_by by None = None
spent_by by (Some h) = spent h.held by

abbrev pub call_in : List world.Hand → model.Event → Option (SessionId × Call)
call_in hands (model.On id step) = Some (id, plain_call step)
call_in hands (model.Spend k by) = spent_by by (hand_at k hands)
call_in hands _ = None

-- the values that are left of those in hand
abbrev pub left_by : List world.Hand → model.Event → List world.Hand
left_by hands (model.Spend k by) = without_hand k hands
left_by hands _ = hands

-- what the call of an event tells, and the values that it gives, if an offer chooses tag `t`
abbrev pub told_at : World → ℕ → Call → Option Connection → Told
told_at w t call None = told.Nothing
told_at w t call (Some c) = told_of call (outcome w.limits c t call)

-- the value that is given gets the next number
abbrev pub first_shown : ℕ → List Held → Option Hand
first_shown n [] = None
first_shown n (h ∷ hs) = Some (shown (record { number = n; held = h }))

abbrev pub hand_of : World → ℕ → Call → Option Connection → Option Hand
hand_of w t call None = None
hand_of w t call (Some c) = first_shown w.next_hand (gives_in (outcome w.limits c t call))

abbrev pub CallTells : World → ℕ → Note → Option (SessionId × Call) → Type 0
CallTells w t (notes.Told what hand) (Some a) =
    let at = connection_at w.boot a.0 w.connections in (what ≡ told_at w t a.1 at) × (hand ≡ hand_of w t a.1 at)
CallTells w t _ _ = ⊥

abbrev pub out_at : Option Connection → Option MuxFrame
out_at None = None
out_at (Some c) = next_out c

-- WHAT AN ACCEPTED EVENT TELLS, read from the world before it
abbrev pub Tells : World → ℕ → model.Event → Note → Type 0
Tells w t model.OpenClient (notes.Opened id) = id ≡ Client (w.clients + 1)
Tells w t (model.OpenServer mode) (notes.Opened id) = id ≡ Server (w.servers + 1)
Tells w t (model.On id step) note = CallTells w t note (call_in w.hands (model.On id step))
Tells w t (model.Spend k by) note = CallTells w t note (call_in w.hands (model.Spend k by))
Tells w t (model.TakeOutOf id) (notes.Out frame) = said_by frame ≡ out_at (connection_at w.boot id w.connections)
Tells w t model.Restart (notes.Booted n) = n ≡ w.boot + 1
Tells w t _ _ = ⊥

-- an event that may find no memory, or the last number given
abbrev pub grows_in : Option (SessionId × Call) → Bool
grows_in None = false
grows_in (Some a) = grows_by a.1

-- no boot has a greater number
abbrev pub is_last_boot : ℕ → Bool
is_last_boot n = nat_le 18446744073709551614 n

abbrev pub may_grow : World → model.Event → Bool
may_grow w model.OpenClient = true
may_grow w (model.OpenServer mode) = true
may_grow w model.Restart = is_last_boot w.boot
may_grow w e = grows_in (call_in w.hands e)

-- the session, the value and its kind are looked at first
abbrev pub IsLookedAt : Result World model.EventRefusal → Type 0
IsLookedAt (Err model.NoSuchSession) = ⊥
IsLookedAt (Err model.NoSuchHand) = ⊥
IsLookedAt (Err model.WrongHand) = ⊥
IsLookedAt _ = Unit {0}

-- an event is refused as the world refuses it, or because memory or numbers have run out
abbrev pub IsRefusedBy : World → model.Event → Result World model.EventRefusal → EventRefusal → Type 0
IsRefusedBy w e x refusals.NoSuchSession = x ≡ Err model.NoSuchSession
IsRefusedBy w e x refusals.NoSuchHand = x ≡ Err model.NoSuchHand
IsRefusedBy w e x refusals.WrongHand = x ≡ Err model.WrongHand
IsRefusedBy w e x (refusals.Session why) = x ≡ Err (model.OfSession (refusal_of why))
IsRefusedBy w e x refusals.Memory = (may_grow w e ≡ true) × IsLookedAt x

abbrev pub is_memory : EventRefusal → Bool
is_memory refusals.Memory = true
is_memory _ = false
