-- What an audit is handed of a run, and what it may tell of it.
use Rattle.std.specs.Prelude.{ℕ, List, ◌++◌, ◌-◌, ◌^◌, ◌≡◌, ◌≤◌, ◌<◌, length, map, reverse, take, None}
use Rattle.std.specs.List.Sorted.{IsPermutation}
use Rattle.mux_history.specs.Bounds.{Bounds, InRange}
use Rattle.mux_history.specs.declared.record.Record.{Record}
use Rattle.mux_history.specs.declared.session.SessionId.{SessionId}
use Rattle.mux_agree.specs.Walk.{Kept}
use Rattle.mux_model.specs.Events.{Event, run, AllChooseFree}
use Rattle.mux_model.specs.Runs.{lines}
use Rattle.mux_model.specs.World.{start}
use Rattle.mux_legal.specs.KeptRuns.{history_of}
use Rattle.mux_legal.specs.RunsBearOut.{of_boot}
use Rattle.rolling_audit.specs.declared.fault.RecordFault.{RecordFault}
use Rattle.rolling_audit.specs.declared.fault.RecordFault.TheVariants.{Uncounted}
use Rattle.rolling_audit.specs.declared.fault.RollingFault.{RollingFault}
use Rattle.rolling_audit.specs.declared.fault.RollingFault.TheVariants.{Memory, NotOpen, Record as FaultyRecord, Dispatch}
use Rattle.rolling_audit.specs.declared.rolling.RollingAudit.{RollingAudit}
use Rattle.rolling_audit.specs.Faults.{AreOf, IsFaulty}
use Rattle.rolling_audit.specs.Histories.{behind}
use Rattle.rolling_audit.specs.Steps.{IsAtFault, LeftBy}
use Rattle.rolling_audit.specs.Taken.{IsTaken, trail_of}

-- the histories of one boot of a run, in the order of the walk
abbrev pub histories_of : Bounds → (boot : ℕ) → List (ℕ × Event) → (b : ℕ) → List Kept
histories_of limits boot events b = map history_of (of_boot b (lines (run (start limits boot) events).connections))

-- what a cause leaves open of a record of a run, behind those before it in its session: that so many pings may have
-- been made as aren't counted
abbrev pub Leaves : RecordFault → (past : List Record) → Type 0
Leaves Uncounted past = 2 ^ 64 - 1 ≤ length past
Leaves _ past = ⊥

-- no record of a run is at fault, whatever was taken of the histories of its boot before it, and handed in with it
abbrev pub NeverAccused : Type 0
NeverAccused =
    (limits : Bounds) (boot : ℕ) (events : List (ℕ × Event)) → InRange limits
    → AllChooseFree (start limits boot) events → (b : ℕ)
    → (taken : List Kept) (id : SessionId) (rs : List Record) (place : ℕ) (cause : RecordFault)
    → AreOf (histories_of limits boot events b) (behind id rs taken) id
    → (f : IsFaulty b taken id rs place cause) → Leaves cause (reverse (f.own.records ++ take f.index rs))

-- what may be told of records of a run: that memory was refused, that their session isn't open, or that the record
-- behind 2 ^ 64 - 1 others of its session isn't counted
abbrev pub MayTell : RollingFault → RollingAudit → SessionId → List Record → Type 0
MayTell (Memory taken) a id rs = taken < length rs
MayTell (NotOpen session) a id rs = trail_of a id ≡ None
MayTell (FaultyRecord session place cause) a id rs = (cause ≡ Uncounted) × (place ≡ 2 ^ 64 - 1)
MayTell (Dispatch name flaw) a id rs = ⊥

abbrev pub NeverRefused : Type 0
NeverRefused =
    (limits : Bounds) (boot : ℕ) (events : List (ℕ × Event)) → InRange limits
    → AllChooseFree (start limits boot) events → (b : ℕ)
    → (taken : List Kept) (old new : RollingAudit) (id : SessionId) (rs : List Record) (e : RollingFault)
    → old.lives.boot ≡ b → IsTaken taken old → AreOf (histories_of limits boot events b) (behind id rs taken) id
    → LeftBy e old id rs new → MayTell e old id rs

-- where the histories of a boot were taken, in whatever order of sessions, no dispatch is at fault
abbrev pub NeverFlawed : Type 0
NeverFlawed =
    (limits : Bounds) (boot : ℕ) (events : List (ℕ × Event)) → AllChooseFree (start limits boot) events → (b : ℕ)
    → (taken : List Kept) (a : RollingAudit) (e : RollingFault) → IsTaken taken a
    → IsPermutation taken (histories_of limits boot events b) → IsAtFault e a → ⊥
