-- What the sessions of a hub did, in one list, the newest first.
use Rattle.std.specs.Prelude.{ℕ, List, [], ◌∷◌, ◌+◌, ◌-◌, ◌%◌, ◌==◌, ◌≢◌, Bool, Option, Some, None, if◌then◌else◌, length, slice_get}
use Rattle.std.specs.List.{filter}
use Rattle.mux_frame.specs.Spelling.{MuxFrame}
use Rattle.mux_history.specs.Bounds.{Bounds}
use Rattle.mux_history.specs.declared.session.InitMode.{InitMode}
use Rattle.mux_history.specs.declared.session.SessionId.{SessionId}
use Rattle.mux_history.specs.declared.session.SessionId.TheVariants.{Client, Server}
use Rattle.mux_model.specs.Entries.{Exchange}
use Rattle.mux_model.specs.Steps.{Call, Held}
use Rattle.mux_model.specs.World.{Connection, first_step, same_session, stepped}
use Rattle.hub_log.specs.declared.terms.Terms.{Terms}

-- the right to one value: the place of the move that gave it, where the oldest is at 0, and which of its values it is
pub record Claim : Type 0 where
  pub place : ℕ
  pub which : ℕ

-- what a session did: it was opened; it made a call that was recorded, with its exchange and the values that this
-- gave; it made a call without a record; or frames were taken out of it
pub data Deed : Type 0 where
  Opened : (mode : InitMode) → Deed
  Did : (call : Call) (entry : Exchange) (gives : List Held) → Deed
  Quiet : (call : Call) → Deed
  TookOut : (frames : List MuxFrame) → Deed

-- a deed of a session, and the value that it used up
pub record Move : Type 0 where
  pub session : SessionId
  pub deed : Deed
  pub uses : Option Claim

abbrev pub gives_of : Deed → List Held
gives_of (Opened mode) = []
gives_of (Did call entry gives) = gives
gives_of (Quiet call) = []
gives_of (TookOut frames) = []

-- P of each move and those before it
abbrev pub EachMove : (Move → List Move → Type 0) → List Move → Type 0
EachMove P [] = Unit {0}
EachMove P (m ∷ old) = P m old × EachMove P old

-- the move at a place, and the value of a claim
abbrev pub move_at : ℕ → List Move → Option Move
move_at place [] = None
move_at place (m ∷ old) = if length old == place then Some m else move_at place old

abbrev pub value_in : ℕ → Option Move → Option Held
value_in which None = None
value_in which (Some m) = slice_get (gives_of m.deed) which

abbrev pub value_of : Claim → List Move → Option Held
value_of c log = value_in c.which (move_at c.place log)

-- no move used this value
abbrev pub IsUnused : Claim → List Move → Type 0
IsUnused c log = EachMove (λ m old. m.uses ≢ Some c) log

-- the limits of a session, and the slot that has it: those for clients come first, and the sessions of a slot come one
-- after another
abbrev pub limits_of : Terms → SessionId → Bounds
limits_of t (Client k) = t.limits
limits_of t (Server k) = t.server_limits

abbrev pub slot_of : Terms → SessionId → ℕ
slot_of t (Client k) = (k - 1) % t.clients
slot_of t (Server k) = t.clients + k % t.servers

-- a session's own moves
abbrev pub is_by : SessionId → Move → Bool
is_by id m = same_session m.session id

abbrev pub moves_of : SessionId → List Move → List Move
moves_of id log = filter (is_by id) log

-- the connection that they lead to, once it was opened
abbrev pub begun : Terms → SessionId → InitMode → Connection
begun t id mode = record { boot = t.boot; session = id; mode = mode; steps = first_step mode; out = 0 }

abbrev pub after : Terms → SessionId → Deed → Option Connection → Option Connection
after t id (Opened mode) before = Some (begun t id mode)
after t id (Did call entry gives) (Some c) = Some (stepped c call entry)
after t id (TookOut frames) (Some c) = Some (record c { out = c.out + length frames })
after t id _ before = before

abbrev pub connection_of : Terms → SessionId → (own : List Move) → Option Connection
connection_of t id [] = None
connection_of t id (m ∷ old) = after t id m.deed (connection_of t id old)

-- the same in a log
abbrev pub connection_in : Terms → SessionId → List Move → Option Connection
connection_in t id log = connection_of t id (moves_of id log)
