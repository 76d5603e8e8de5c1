-- What the audit of a run is told of histories that a session gave up.
use Rattle.std.specs.Prelude.{ℕ, Bool, true, false, List, [], ◌∷◌, ◌++◌, ◌≡◌, ◌≢◌, ◌≤◌, ◌+◌, ◌-◌, ◌^◌, Option, None, Some, drop, length, min}
use Rattle.mux_history.specs.Log.{Log}
use Rattle.mux_history.specs.declared.session.SessionId.{SessionId}
use Rattle.mux_history.specs.declared.session.SessionId.TheVariants.{Client, Server}
use Rattle.mux_agree.specs.Walk.{Kept}
use Rattle.kept_session.specs.Reached.{Kept as KeptUp}
use Rattle.route_table.specs.declared.audit.AuditMode.{AuditMode}
use Rattle.route_table.specs.declared.audit.AuditMode.TheVariants.{Close, Rolling}
use Rattle.kept_session.specs.ReachedDown.{KeptDown}
use Rattle.hub_places.specs.Numbering.{KeepsDown, KeepsUp}
use Rattle.hub.specs.Renewing.{Finishes, FinishesDown}
use Rattle.hub.specs.Giving.{AreGivenUp}
use Rattle.rolling_audit.specs.Covering.{Covers, LeftBy, TakesEpoch}
use Rattle.rolling_audit.specs.Turns.{next_in}
use Rattle.rolling_audit.specs.declared.run.RunAudit.{RunAudit}
use Rattle.rolling_audit.specs.declared.run_fault.RunFault.{RunFault}
use Rattle.rolling_audit.specs.declared.run_fault.RunFault.TheVariants as fault
use Rattle.router_state.specs.declared.given.Given.{Given}
use Rattle.router_state.specs.declared.unaudited.AuditStop.{AuditStop}
use Rattle.router_state.specs.declared.unaudited.AuditStop.TheVariants as stop

-- histories are looked at while the run goes on
abbrev pub is_rolling : AuditMode → Bool
is_rolling Close = false
is_rolling Rolling = true

-- the epoch that is so many behind the first, up to the greatest number
abbrev pub epoch_at : (first behind : ℕ) → ℕ
epoch_at first behind = min (first + behind) (2 ^ 32 - 1)

-- the audit took the whole history of each, in this order: that of the epoch that is so many behind the first, and those
-- of the epochs that follow it
abbrev pub TakesFrom : RunAudit → SessionId → (first behind : ℕ) → List Log → RunAudit → Type 0
TakesFrom old id first behind [] new = old ≡ new
TakesFrom old id first behind (h ∷ hs) new =
    (mid : RunAudit) × TakesEpoch old id (epoch_at first behind) h.records mid
    × TakesFrom mid id first (behind + 1) hs new

-- the audit took those that it had not seen, and so many were seen then
pub record Looks (given : Given) (old : RunAudit) (seen : ℕ) (new : RunAudit) : Type 0 where
  pub done : List Log
  pub whole : drop given.seen given.histories.items ≡ done ++ drop seen given.histories.items
  pub count : seen ≡ given.seen + length done
  pub taken : TakesFrom old given.session given.first given.seen done new

-- the one behind these isn't taken, or not to its end: it comes first the next time
pub record StopsAt (e : RunFault) (given : Given) (old : RunAudit) (seen : ℕ) (new : RunAudit) : Type 0 where
  pub before : RunAudit
  pub looks : Looks given old seen before
  pub at : Log
  pub is : drop seen given.histories.items ≡ at ∷ drop (seen + 1) given.histories.items
  pub left : LeftBy e before given.session (epoch_at given.first seen) at.records new

-- no history of the session is next, and what the audit was told stays
pub record Ends (id : SessionId) (old new : RunAudit) : Type 0 where
  pub gone : next_in new.turns id ≡ None
  pub covers : (hs : List Kept) → Covers hs old → Covers hs new
  pub counts : new.counts ≡ old.counts
  pub records : new.records ≡ old.records

abbrev pub EndsIf : Bool → SessionId → RunAudit → RunAudit → Type 0
EndsIf false id old new = new ≡ old
EndsIf true id old new = Ends id old new

-- the audit took all that it had not seen, and the session has ended if it has no others
pub record IsLookedAt (given : Given) (old new : RunAudit) : Type 0 where
  pub seen : ℕ
  pub all : RunAudit
  pub looks : Looks given old seen all
  pub whole : length given.histories.items ≤ seen
  pub ends : EndsIf given.is_all given.session all new

-- it stopped at one: without memory it is left as far as it was seen, else the fault is that of this one
abbrev pub StopsSo : AuditStop → Given → RunAudit → RunAudit → Type 0
StopsSo (stop.Memory u) given old new =
    StopsAt fault.Memory given old u.given.seen new × (u.given ≡ record given { seen = u.given.seen })
StopsSo (stop.Fault e) given old new = (seen : ℕ) × StopsAt e given old seen new × (e ≢ fault.Memory)

-- the histories that had ended of this session, as it gave them up: the audit has taken none of them
pub record IsGivenUp (id : SessionId) (given : Given) : Type 0 where
  pub room : ℕ
  pub ended : AreGivenUp id [] room given.histories.items (Some given.first)
  pub is : given ≡ record { session = id; first = given.first; histories = given.histories; is_all = false; seen = 0 }

-- all that a session had left when it was taken out of the hub, in states that a lock may keep
abbrev pub FinishedBy : SessionId → Option (ℕ × List Log) → Type 0
FinishedBy (Client number) left =
    (s : Option KeptDown) × (t : Option KeptDown) × FinishesDown s t left × KeepsDown number s × KeepsDown number t
FinishedBy (Server number) left =
    (s : Option KeptUp) × (t : Option KeptUp) × Finishes s t left × KeepsUp number s × KeepsUp number t

-- those histories, as it gave them up: the audit has taken none of them
pub record AreTheLast (id : SessionId) (given : Given) : Type 0 where
  pub left : FinishedBy id (Some (given.first, given.histories.items))
  pub is : given ≡ record { session = id; first = given.first; histories = given.histories; is_all = true; seen = 0 }
