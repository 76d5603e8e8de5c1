-- The world: the lists of every boot, and a bag of values in hand. One event is one session's step.
use Rattle.std.specs.Prelude.{ℕ, List, [], ◌∷◌, ◌++◌, ◌+◌, ◌==◌, ◌≡◌, Bool, false, Option, Some, None, if◌then◌else◌, length}
use Rattle.mux_frame.specs.Spelling.{MuxFrame}
use Rattle.mux_history.specs.Bounds.{Bounds}
use Rattle.mux_history.specs.declared.session.SessionId.{SessionId}
use Rattle.mux_history.specs.declared.session.SessionId.TheVariants.{Client, Server}
use Rattle.mux_history.specs.declared.session.InitMode.{InitMode}
use Rattle.mux_history.specs.declared.session.InitMode.TheVariants.{Probe, Plain}
use Rattle.mux_message.specs.Made.{probe}
use Rattle.mux_model.specs.Entries.{Exchange}
use Rattle.mux_history.specs.Readings.{has_ended}
use Rattle.mux_model.specs.Steps.{Held, TicketOf, PlacedAt, SettledBy, RecallOf, LostOf, Call, FrameCall, NoteCall, SettleCall, NackCall, UnrouteCall, FailCall, DrainCall, OfferCall, RecallCall, ClockCall, PingCall, RetireCall, LoseCall, LoseNextCall, SealCall, RollCall, ProbeCall, Step, entries, records, Outcome, Unrecorded, Recorded, sent_at}
use Rattle.mux_model.specs.Down.{down}
use Rattle.mux_model.specs.Up.{up, MayChoose}

abbrev pub same_session : SessionId → SessionId → Bool
same_session (Client a) (Client b) = a == b
same_session (Server a) (Server b) = a == b
same_session _ _ = false

-- a connection, named by its boot and session: its list, the newest step first, and how many frames were taken out
pub record Connection : Type 0 where
  pub boot : ℕ
  pub session : SessionId
  pub mode : InitMode
  pub steps : List Step
  pub out : ℕ

-- a value in hand, and its number
pub record Hand : Type 0 where
  pub number : ℕ
  pub held : Held

pub record World : Type 0 where
  pub limits : Bounds
  pub boot : ℕ
  pub clients : ℕ
  pub servers : ℕ
  pub connections : List Connection
  pub hands : List Hand
  pub next_hand : ℕ

abbrev pub start : Bounds → ℕ → World
start limits boot =
    record { limits = limits; boot = boot; clients = 0; servers = 0; connections = []; hands = []; next_hand = 1 }

-- the probe is the first thing sent
abbrev pub first_step : InitMode → List Step
first_step Plain = []
first_step Probe = record { call = ProbeCall; entry = record { rec = None; taken = None; sent = Some probe } } ∷ []

abbrev pub opened : World → SessionId → InitMode → Connection
opened w id mode = record { boot = w.boot; session = id; mode = mode; steps = first_step mode; out = 0 }

abbrev pub with_client : World → World
with_client w =
    record w { clients = w.clients + 1; connections = w.connections ++ opened w (Client (w.clients + 1)) Plain ∷ [] }

abbrev pub with_server : InitMode → World → World
with_server mode w =
    record w { servers = w.servers + 1; connections = w.connections ++ opened w (Server (w.servers + 1)) mode ∷ [] }

-- Restart cuts every list, since no step is on a connection of an older boot, and empties the bag
abbrev pub restarted : World → World
restarted w = record w { boot = w.boot + 1; clients = 0; servers = 0; hands = [] }

-- what a session's step may answer, if an offer chooses tag `t`
abbrev pub outcome_at : Bounds → Connection → SessionId → ℕ → Call → Outcome
outcome_at limits c (Client k) t call = down (record { limits = limits; boot = c.boot; number = k }) c.steps c.out call
outcome_at limits c (Server k) t call = up (record { limits = limits; number = k; mode = c.mode }) c.steps c.out t call

abbrev pub MayChooseAt : Bounds → Connection → SessionId → ℕ → Call → Type 0
MayChooseAt limits c (Client k) t call = Unit {0}
MayChooseAt limits c (Server k) t call =
    MayChoose (record { limits = limits; number = k; mode = c.mode }) c.steps t call

abbrev pub outcome : Bounds → Connection → ℕ → Call → Outcome
outcome limits c t call = outcome_at limits c c.session t call

-- the new values get the next numbers
abbrev pub numbered : ℕ → List Held → List Hand
numbered n [] = []
numbered n (h ∷ hs) = record { number = n; held = h } ∷ numbered (n + 1) hs

abbrev pub stepped : Connection → Call → Exchange → Connection
stepped c call e = record c { steps = record { call = call; entry = e } ∷ c.steps }

-- the session of a value in hand, and its call
abbrev pub IsSpentBy : Held → SessionId → Call → Type 0
IsSpentBy h id (NoteCall n server tag) = (h ≡ PlacedAt n server tag) × (id ≡ Client n.client)
IsSpentBy h id (SettleCall n reply again) = (h ≡ SettledBy n reply again) × (id ≡ Client n.client)
IsSpentBy h id (NackCall n) = ((f : MuxFrame) × (left : ℕ) × (h ≡ TicketOf n f left)) × (id ≡ Client n.client)
IsSpentBy h id (UnrouteCall n) = ((f : MuxFrame) × (left : ℕ) × (h ≡ TicketOf n f left)) × (id ≡ Client n.client)
IsSpentBy h id (FailCall n) = (h ≡ LostOf n) × (id ≡ Client n.client)
IsSpentBy h id (OfferCall n f left now) = h ≡ TicketOf n f left
IsSpentBy h id (RecallCall n tag why now) = (server : ℕ) × (h ≡ RecallOf n server tag why) × (id ≡ Server server)
IsSpentBy h id _ = ⊥

-- the calls that need no value
abbrev pub NeedsNone : Call → Type 0
NeedsNone (FrameCall f now) = Unit {0}
NeedsNone DrainCall = Unit {0}
NeedsNone (ClockCall now) = Unit {0}
NeedsNone (PingCall now) = Unit {0}
NeedsNone (RetireCall now) = Unit {0}
NeedsNone (LoseCall now) = Unit {0}
NeedsNone LoseNextCall = Unit {0}
NeedsNone SealCall = Unit {0}
NeedsNone RollCall = Unit {0}
NeedsNone _ = ⊥

-- what is left of the bag once the call has its value
pub data Leaves (hands : List Hand) (id : SessionId) (call : Call) : List Hand → Type 0 where
  all_left : NeedsNone call → Leaves hands id call hands
  all_but : (before : List Hand) (h : Hand) (after : List Hand) → hands ≡ before ++ h ∷ after
      → IsSpentBy h.held id call → Leaves hands id call (before ++ after)

-- an accepted step with a record, on one connection of this boot
pub record Move (w : World) : Type 0 where
  pub before : List Connection
  pub connection : Connection
  pub after : List Connection
  pub is : w.connections ≡ before ++ connection ∷ after
  pub present : connection.boot ≡ w.boot
  pub tag : ℕ
  pub call : Call
  pub entry : Exchange
  pub gives : List Held
  pub may : MayChooseAt w.limits connection connection.session tag call
  pub does : outcome w.limits connection tag call ≡ Recorded entry gives
  pub rest : List Hand
  pub leaves : Leaves w.hands connection.session call rest

abbrev pub moved : (w : World) → Move w → World
moved w m =
    record w {
      connections = m.before ++ stepped m.connection m.call m.entry ∷ m.after;
      hands = m.rest ++ numbered w.next_hand m.gives;
      next_hand = w.next_hand + length m.gives;
    }

-- an accepted step without a record uses up its value
pub record Quiet (w : World) : Type 0 where
  pub before : List Connection
  pub connection : Connection
  pub after : List Connection
  pub is : w.connections ≡ before ++ connection ∷ after
  pub present : connection.boot ≡ w.boot
  pub tag : ℕ
  pub call : Call
  pub does : outcome w.limits connection tag call ≡ Unrecorded
  pub rest : List Hand
  pub leaves : Leaves w.hands connection.session call rest

-- the frame that is taken out next: the one that was sent after those taken out so far
abbrev pub next_out : Connection → Option MuxFrame
next_out c = if has_ended (records c.steps) then None else sent_at c.out (entries c.steps)

pub record TakeOut (w : World) : Type 0 where
  pub before : List Connection
  pub connection : Connection
  pub after : List Connection
  pub is : w.connections ≡ before ++ connection ∷ after
  pub present : connection.boot ≡ w.boot
  pub frame : MuxFrame
  pub gives : next_out connection ≡ Some frame

abbrev pub taken_out : (w : World) → TakeOut w → World
taken_out w m = record w { connections = m.before ++ record m.connection { out = m.connection.out + 1 } ∷ m.after }

-- the worlds that events lead to, in any order
pub data Reached : World → Type 0 where
  starts : (limits : Bounds) (boot : ℕ) → Reached (start limits boot)
  opens_client : {w : World} → Reached w → Reached (with_client w)
  opens_server : {w : World} → (mode : InitMode) → Reached w → Reached (with_server mode w)
  moves : {w : World} → (m : Move w) → Reached w → Reached (moved w m)
  passes : {w : World} → (q : Quiet w) → Reached w → Reached (record w { hands = q.rest })
  takes_out : {w : World} → (m : TakeOut w) → Reached w → Reached (taken_out w m)
  restarts : {w : World} → Reached w → Reached (restarted w)
