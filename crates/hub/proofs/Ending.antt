-- The end of a run whose histories were looked at while it went on.
use Rattle.std.proofs.Common.{ℕ, List, ◌≡◌, ◌<◌, ◌-◌, ◌^◌, arith, length}
use Rattle.std.specs.Prelude.{◌≢◌}
use Rattle.mux_history.specs.Counting.{capped}
use Rattle.mux_agree.specs.declared.agreement.histories.DownHistory.{DownHistory}
use Rattle.mux_agree.specs.declared.agreement.histories.UpHistory.{UpHistory}
use Rattle.mux_agree.specs.Walk.{Kept, all_records}
use Rattle.rolling_audit.specs.Covering.{Covers}
use Rattle.rolling_audit.specs.declared.run.RunAudit.{RunAudit}
use Rattle.hub_close.specs.Totals.{IsBalanced}
use Rattle.hub_close.specs.declared.count.Class.TheVariants.{Dispatch, Reply}
use Rattle.hub.specs.Seats.{Seat, Orders}
use Rattle.hub.specs.declared.close.Closed.{Closed}
use Rattle.hub.specs.Closing.{DownReceipts, UpReceipts, made_by}
use Rattle.hub.specs.Rests.{first_in}
use Rattle.hub.specs.Run.{BearsOut, IsClosedRun, IsMade, IsMiscounted, IsSumOf}
use Rattle.hub.proofs.Telling.{counted}

-- so many records were taken, up to the greatest number
abbrev pub HasTaken : RunAudit → ℕ → Type 0
HasTaken b records = (hs : List Kept) → Covers hs b → records ≡ capped (length (all_records hs))

pub miscounted : (b : RunAudit) (records made : ℕ) → HasTaken b records → (records < 2 ^ 64 - 1 → made ≢ records) → IsMiscounted b made
miscounted b records made taken differ =
    λ hs covers small same. let is = taken hs covers in differ (omega (arith, is, small)) (omega (arith, is, small, same))

pub all_made : (b : RunAudit) (records made : ℕ) → HasTaken b records → made ≡ records → records < 2 ^ 64 - 1 → IsMade b made
all_made b records made taken same small = λ hs covers. let is = taken hs covers in omega (arith, is, small, same)

pub few : (b : RunAudit) (records : ℕ) → HasTaken b records → records < 2 ^ 64 - 1 → (hs : List Kept) → Covers hs b
    → length (all_records hs) < 2 ^ 64
few b records taken small hs covers = let is = taken hs covers in omega (arith, is, small)

pub closed_run : (audit b : RunAudit) (downs : List DownHistory) (ups : List UpHistory) (clients servers : List Seat) (orders : List Orders) (c : Closed)
    (records : ℕ) → DownReceipts (first_in audit) downs clients → UpReceipts (first_in audit) ups servers → BearsOut b → HasTaken b records
    → made_by clients servers orders ≡ records → records < 2 ^ 64 - 1 → ((hs : List Kept) → Covers hs b → IsBalanced (all_records hs)) → IsSumOf b c
    → IsClosedRun audit b downs ups clients servers orders c
closed_run audit b downs ups clients servers orders c records down up borne taken made small balanced sum =
    record {
      bear_out = borne;
      down_receipts = down;
      up_receipts = up;
      made = all_made b records (made_by clients servers orders) taken made small;
      balanced = balanced;
      records = λ hs covers. let is = taken hs covers in let told = sum.records hs covers in omega (arith, is, told, small);
      dispatches = λ hs covers. counted Dispatch (all_records hs) c.dispatches records (sum.dispatches hs covers) (taken hs covers) small;
      replies = λ hs covers. counted Reply (all_records hs) c.replies records (sum.replies hs covers) (taken hs covers) small;
    }
