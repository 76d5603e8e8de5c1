-- What a run's audit tells of the histories that it covers.
use Rattle.std.specs.Prelude.{ℕ, List, ◌≡◌, ◌≤◌, ◌+◌, ◌⊎◌, Bool, true, false, is_some, drop, take, length}
use Rattle.mux_history.specs.declared.record.Record.{Record}
use Rattle.mux_history.specs.declared.session.SessionId.{SessionId}
use Rattle.mux_history.specs.Counting.{IsCount, capped}
use Rattle.mux_agree.specs.Walk.{Kept, all_records}
use Rattle.rolling_audit.specs.declared.fault.RollingFault.{RollingFault}
use Rattle.rolling_audit.specs.declared.fault.RollingFault.TheVariants.{Record as FaultyRecord}
use Rattle.rolling_audit.specs.Faults.{IsFaulty}
use Rattle.rolling_audit.specs.Histories.{behind}
use Rattle.rolling_audit.specs.Slots.{used_in}
use Rattle.rolling_audit.specs.Taken.{IsTaken}
use Rattle.rolling_audit.specs.declared.run.RunAudit.{RunAudit}
use Rattle.rolling_audit.specs.declared.run_fault.RunFault.{RunFault}
use Rattle.rolling_audit.specs.declared.run_fault.RunFault.TheVariants.{Memory, OutOfTurn, Rolling}
use Rattle.rolling_audit.specs.declared.turns.Progress.{Progress}
use Rattle.rolling_audit.specs.Opening.{AreBegun, IsBegun, OpenWith, begun_with, is_new, lasts_if}
use Rattle.rolling_audit.specs.Turns.{IsTurn, Sets, next_in, numbers_of}

-- each client that was opened is its slot's present one, or came before that
pub record HaveCome (lasts numbers : List ℕ) : Type 0 where
  pub slots : length lasts ≡ length numbers
  pub come : (k : ℕ) → used_in lasts k ≡ true → used_in numbers k ≡ true

-- the audit was told these histories: all that it keeps is of their records
pub record Covers (hs : List Kept) (a : RunAudit) : Type 0 where
  pub taken : IsTaken hs a.audit
  pub counts : IsCount a.counts (all_records hs)
  pub records : a.records ≡ capped (length (all_records hs))
  pub begun : AreBegun (λ id. is_some (next_in a.turns id)) a.audit
  pub come : HaveCome a.audit.lasts.items (numbers_of a.turns)

-- more records of a session
abbrev pub Adds : RunAudit → SessionId → List Record → RunAudit → Type 0
Adds old id rs new = (hs : List Kept) → Covers hs old → Covers (behind id rs hs) new

-- more records of a session, which is opened before that or not, and what is next for it then
pub record Takes (old : RunAudit) (id : SessionId) (opens : Bool) (rs : List Record) (next : Progress) (new : RunAudit)
    : Type 0 where
  pub lasts : new.audit.lasts.items ≡ lasts_if opens id old.audit.lasts.items
  pub trails : OpenWith opens id old.audit new.audit
  pub modes : new.modes ≡ old.modes
  pub covers : (hs : List Kept) → Covers hs old
      → Covers (behind id rs (begun_with old.modes.items opens id hs)) new
  pub turns : Sets old.turns id next new.turns

-- all records of the epoch that weren't taken, of a session that was opened before that if it was new; the next epoch
-- is next
pub record TakesEpoch (old : RunAudit) (id : SessionId) (epoch : ℕ) (rs : List Record) (new : RunAudit) : Type 0 where
  pub within : ℕ
  pub turn : IsTurn old.turns id epoch (length rs) within
  pub takes :
      Takes old id (is_new old.audit id) (drop within rs) (record { epoch = epoch + 1; within = 0 }) new

-- so many of them; the others are next. If memory ran out before the session was opened, there were none
pub record TakesPart (old : RunAudit) (id : SessionId) (epoch : ℕ) (rs : List Record) (new : RunAudit) : Type 0 where
  pub within : ℕ
  pub turn : IsTurn old.turns id epoch (length rs) within
  pub taken : ℕ
  pub reaches : within + taken ≤ length rs
  pub opens : Bool
  pub opened : opens ≡ is_new old.audit id ⊎ (opens ≡ false) × (taken ≡ 0)
  pub takes : Takes old id opens (take taken (drop within rs)) (record { epoch = epoch; within = within + taken }) new

-- the fault is that of a record that was to be taken: it has the cause
abbrev pub IsOfRecord : RollingFault → RunAudit → SessionId → List Record → Type 0
IsOfRecord (FaultyRecord session place cause) old id rs =
    (session ≡ id) × ((hs : List Kept) → Covers hs old
    → IsFaulty old.audit.lives.boot (begun_with old.modes.items (is_new old.audit id) id hs) id rs place cause)
IsOfRecord _ old id rs = (hs : List Kept) → Covers hs old → ⊥

-- why the records behind those of an epoch that were taken aren't taken, or not all
abbrev pub Stops : RunFault → RunAudit → SessionId → Progress → List Record → RunAudit → Type 0
Stops Memory old id p rs new =
    (taken : ℕ) × (taken ≤ length rs) × Adds old id (take taken rs) new
    × Sets old.turns id (record { epoch = p.epoch; within = p.within + taken }) new.turns
Stops (OutOfTurn session) old id p rs new = ⊥
Stops (Rolling (FaultyRecord session place cause)) old id p rs new =
    (session ≡ id) × ((hs : List Kept) → Covers hs old
    → IsFaulty old.audit.lives.boot hs id rs place cause)
Stops (Rolling _) old id p rs new = (hs : List Kept) → Covers hs old → IsBegun old.audit id → ⊥

-- why the epoch isn't taken, or not to its end
abbrev pub LeftBy : RunFault → RunAudit → SessionId → (epoch : ℕ) → List Record → RunAudit → Type 0
LeftBy Memory old id epoch rs new = TakesPart old id epoch rs new
LeftBy (OutOfTurn session) old id epoch rs new =
    (session ≡ id) × (new ≡ old) × ((within : ℕ) → IsTurn old.turns id epoch (length rs) within → ⊥)
LeftBy (Rolling e) old id epoch rs new =
    (within : ℕ) × IsTurn old.turns id epoch (length rs) within × IsOfRecord e old id (drop within rs)
