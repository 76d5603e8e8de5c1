-- Which logs are those of a hub.
use Rattle.std.specs.Prelude.{ℕ, List, [], ◌∷◌, ◌+◌, ◌≡◌, Option, Some, None}
use Rattle.mux_frame.specs.Spelling.{MuxFrame}
use Rattle.mux_history.specs.declared.session.InitMode.{InitMode}
use Rattle.mux_history.specs.declared.session.InitMode.TheVariants.{Plain}
use Rattle.mux_history.specs.declared.session.SessionId.{SessionId}
use Rattle.mux_history.specs.declared.session.SessionId.TheVariants.{Client, Server}
use Rattle.mux_model.specs.Steps.{Call, Held, Unrecorded, Recorded}
use Rattle.mux_model.specs.World.{Connection, IsSpentBy, MayChooseAt, NeedsNone, next_out, outcome_at}
use Rattle.hub_log.specs.declared.terms.Terms.{Terms}
use Rattle.hub_log.specs.Moves.{Claim, Deed, Opened, Did, Quiet, TookOut, Move, EachMove, value_of, IsUnused, limits_of, connection_in}

-- PROVENANCE: the value that a call is handed was given by a move before it; a move that needs none uses none
abbrev pub IsHanded : SessionId → Call → Option Claim → List Move → Type 0
IsHanded id call None old = NeedsNone call
IsHanded id call (Some c) old = (h : Held) × (value_of c old ≡ Some h) × IsSpentBy h id call

abbrev pub IsGiven : SessionId → Deed → Option Claim → List Move → Type 0
IsGiven id (Opened mode) uses old = uses ≡ None
IsGiven id (Did call entry gives) uses old = IsHanded id call uses old
IsGiven id (Quiet call) uses old = IsHanded id call uses old
IsGiven id (TookOut frames) uses old = uses ≡ None

-- ONCE: no move before has used that value
abbrev pub IsFirst : Option Claim → List Move → Type 0
IsFirst None old = Unit {0}
IsFirst (Some c) old = IsUnused c old

-- OWN: the session may do so, by what it did itself. It is opened once, and makes the steps that are its own
abbrev pub MayBegin : SessionId → InitMode → Type 0
MayBegin (Client k) mode = mode ≡ Plain
MayBegin (Server k) mode = Unit {0}

-- these frames are taken out next
abbrev pub GivesOut : Connection → List MuxFrame → Type 0
GivesOut c [] = Unit {0}
GivesOut c (f ∷ fs) = (next_out c ≡ Some f) × GivesOut (record c { out = c.out + 1 }) fs

abbrev pub IsOwn : Terms → SessionId → Deed → Option Connection → Type 0
IsOwn t id (Opened mode) None = MayBegin id mode
IsOwn t id (Did call entry gives) (Some c) =
    (tag : ℕ) × MayChooseAt (limits_of t id) c id tag call
    × (outcome_at (limits_of t id) c id tag call ≡ Recorded entry gives)
IsOwn t id (Quiet call) (Some c) = (tag : ℕ) × (outcome_at (limits_of t id) c id tag call ≡ Unrecorded)
IsOwn t id (TookOut frames) (Some c) = GivesOut c frames
IsOwn t id _ _ = ⊥

-- such a log: what each move needs stands before it, each value is used once, and each move is its session's own
pub record IsBag (t : Terms) (log : List Move) : Type 0 where
  pub given : EachMove (λ m old. IsGiven m.session m.deed m.uses old) log
  pub once : EachMove (λ m old. IsFirst m.uses old) log
  pub own : EachMove (λ m old. IsOwn t m.session m.deed (connection_in t m.session old)) log
