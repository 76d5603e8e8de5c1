-- What holds at the end of a run whose histories were looked at while it went on.
use Rattle.std.specs.Prelude.{ℕ, List, ◌≡◌, ◌≢◌, ◌<◌, ◌-◌, ◌^◌, ◌⊎◌, length}
use Rattle.mux_history.specs.Counting.{capped}
use Rattle.mux_agree.specs.declared.agreement.histories.DownHistory.{DownHistory}
use Rattle.mux_agree.specs.declared.agreement.histories.UpHistory.{UpHistory}
use Rattle.mux_agree.specs.Walk.{BearOut, Kept, all_records}
use Rattle.rolling_audit.specs.Steps.{IsAtFault}
use Rattle.rolling_audit.specs.Covering.{Covers}
use Rattle.rolling_audit.specs.declared.run.RunAudit.{RunAudit}
use Rattle.rolling_audit.specs.declared.run_fault.RunFault.{RunFault}
use Rattle.rolling_audit.specs.declared.run_fault.RunFault.TheVariants.{Rolling}
use Rattle.hub_close.specs.Totals.{IsBalanced, count_of}
use Rattle.hub_close.specs.declared.count.Class.TheVariants.{Dispatch, Reply}
use Rattle.hub.specs.Seats.{Seat, Orders}
use Rattle.hub.specs.declared.close.Closed.{Closed}
use Rattle.hub.specs.declared.close.CloseFault.{CloseFault}
use Rattle.hub.specs.declared.close.CloseFault.TheVariants.{MissingSeat, Disagree, ReceiptMismatch, Run, Miscount, ValueDropped}
use Rattle.hub.specs.Closing.{DownReceipts, HasWrong, NoneMissing, UpReceipts, made_by, parts_back}
use Rattle.hub.specs.Rests.{StopsAmong, TakesRests, first_in, rests}

-- all histories that the audit was handed
abbrev pub BearsOut : RunAudit → Type 0
BearsOut b = (hs : List Kept) → Covers hs b → BearOut hs

-- the seats made as many records as those have
abbrev pub IsMade : RunAudit → (made : ℕ) → Type 0
IsMade b made = (hs : List Kept) → Covers hs b → made ≡ length (all_records hs)

-- what those hold, up to the greatest number
pub record IsSumOf (b : RunAudit) (c : Closed) : Type 0 where
  pub records : (hs : List Kept) → Covers hs b → c.records ≡ capped (length (all_records hs))
  pub dispatches : (hs : List Kept) → Covers hs b → c.dispatches ≡ capped (count_of Dispatch (all_records hs))
  pub replies : (hs : List Kept) → Covers hs b → c.replies ≡ capped (count_of Reply (all_records hs))

-- `audit` had taken some histories, and `b` is what it is once it has taken the others: all bear each other out; each
-- receipt that is left stands in the histories that were left; the seats made as many records as there are; no value
-- was dropped
pub record IsClosedRun (audit b : RunAudit) (downs : List DownHistory) (ups : List UpHistory)
    (clients servers : List Seat) (orders : List Orders) (c : Closed) : Type 0 where
  pub bear_out : BearsOut b
  pub down_receipts : DownReceipts (first_in audit) downs clients
  pub up_receipts : UpReceipts (first_in audit) ups servers
  pub made : IsMade b (made_by clients servers orders)
  pub balanced : (hs : List Kept) → Covers hs b → IsBalanced (all_records hs)
  pub records : (hs : List Kept) → Covers hs b → c.records ≡ length (all_records hs)
  pub dispatches : (hs : List Kept) → Covers hs b → c.dispatches ≡ count_of Dispatch (all_records hs)
  pub replies : (hs : List Kept) → Covers hs b → c.replies ≡ count_of Reply (all_records hs)

-- THE FIRST CAUSE that stands against it: each comes only where none before it stands

-- a flaw that shows only once all were taken
abbrev pub IsAtEnd : RunFault → RunAudit → Type 0
IsAtEnd (Rolling e) b = IsAtFault e b.audit
IsAtEnd _ b = ⊥

-- a history isn't taken, or all are and something is at fault
abbrev pub EndsBy : RunFault → RunAudit → List DownHistory → List UpHistory → Type 0
EndsBy e audit downs ups =
    StopsAmong e audit (rests downs ups) ⊎ ((b : RunAudit) × TakesRests audit downs ups b × IsAtEnd e b)

-- no part of the ledger is missing, and each receipt stands
pub record AreRight (parts rest : ℕ) (audit : RunAudit) (downs : List DownHistory) (ups : List UpHistory)
    (clients servers : List Seat) : Type 0 where
  pub none_missing : NoneMissing parts rest clients servers
  pub down_receipts : DownReceipts (first_in audit) downs clients
  pub up_receipts : UpReceipts (first_in audit) ups servers

-- all were taken, and bear each other out
pub record AreBorne (audit b : RunAudit) (downs : List DownHistory) (ups : List UpHistory) : Type 0 where
  pub taken : TakesRests audit downs ups b
  pub bear_out : BearsOut b

abbrev pub IsMiscounted : RunAudit → (made : ℕ) → Type 0
IsMiscounted b made =
    (hs : List Kept) → Covers hs b → length (all_records hs) < 2 ^ 64 - 1 → made ≢ length (all_records hs)

abbrev pub IsStoppedRun : (parts rest : ℕ) → RunAudit → List DownHistory → List UpHistory
    → (clients servers : List Seat) → List Orders → CloseFault → Type 0
IsStoppedRun parts rest audit downs ups clients servers orders MissingSeat = parts_back rest clients servers < parts
IsStoppedRun parts rest audit downs ups clients servers orders (Disagree found) = ⊥
IsStoppedRun parts rest audit downs ups clients servers orders (ReceiptMismatch session place) =
    NoneMissing parts rest clients servers × HasWrong (first_in audit) downs ups clients servers session place
IsStoppedRun parts rest audit downs ups clients servers orders (Run fault) =
    AreRight parts rest audit downs ups clients servers × EndsBy fault audit downs ups
-- a count that has reached the greatest number tells nothing more
IsStoppedRun parts rest audit downs ups clients servers orders Miscount =
    AreRight parts rest audit downs ups clients servers
    × ((b : RunAudit) × AreBorne audit b downs ups × IsMiscounted b (made_by clients servers orders))
IsStoppedRun parts rest audit downs ups clients servers orders ValueDropped =
    AreRight parts rest audit downs ups clients servers
    × ((b : RunAudit) × AreBorne audit b downs ups × IsMade b (made_by clients servers orders)
    × ((hs : List Kept) → Covers hs b → ¬ IsBalanced (all_records hs)))
