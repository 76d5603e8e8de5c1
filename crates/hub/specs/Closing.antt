-- What holds of the histories when a hub is closed.
use Rattle.std.specs.Prelude.{◌≡◌, ◌≢◌, ◌<◌, ◌≤◌, ◌+◌, ◌-◌, ◌^◌, All, ℕ, List, length, sum_by, Some, slice_get}
use Rattle.mux_history.specs.declared.session.SessionId.{SessionId}
use Rattle.mux_history.specs.declared.session.SessionId.TheVariants.{Client, Server}
use Rattle.mux_agree.specs.declared.agreement.histories.DownHistory.{DownHistory}
use Rattle.mux_agree.specs.declared.agreement.histories.UpHistory.{UpHistory}
use Rattle.mux_history.specs.declared.record.Record.{Record}
use Rattle.mux_agree.specs.Walk.{histories, all_records, BearOut, IsFirstFault}
use Rattle.hub_close.specs.Receipts.{StandAllFrom, Rise, IsFirstWrongFrom, down_epochs, up_epochs}
use Rattle.hub_close.specs.Totals.{IsBalanced, count_of}
use Rattle.hub_close.specs.declared.count.Class.TheVariants.{Dispatch, Reply}
use Rattle.hub_slots.specs.Histories.{IsKeptDown, IsKeptUp}
use Rattle.hub.specs.declared.close.Closed.{Closed}
use Rattle.hub.specs.declared.close.CloseFault.{CloseFault}
use Rattle.hub.specs.declared.close.CloseFault.TheVariants.{MissingSeat, Disagree, ReceiptMismatch, Run, Miscount, ValueDropped}
use Rattle.hub.specs.Seats.{Seat, Orders}

-- the records of all epochs of all sessions
abbrev pub records_in : List DownHistory → List UpHistory → List Record
records_in downs ups = all_records (histories downs ups)

-- all epochs of each session are left
abbrev pub beginning : SessionId → ℕ
beginning id = 0

-- each receipt of a client's seat stands in the epochs of its session that are left, the first of which has this
-- number, and they rise
pub record IsRightDown (first : ℕ) (downs : List DownHistory) (s : Seat) : Type 0 where
  pub stand : StandAllFrom first (down_epochs downs s.number) s.receipts
  pub rise : Rise s.receipts

-- the same of a server's seat
pub record IsRightUp (first : ℕ) (ups : List UpHistory) (s : Seat) : Type 0 where
  pub stand : StandAllFrom first (up_epochs ups s.number) s.receipts
  pub rise : Rise s.receipts

-- the first receipt of a client's seat that is wrong is at this place
pub record IsWrongDown (first : ℕ) (downs : List DownHistory) (s : Seat) (place : ℕ) : Type 0 where
  pub found : IsFirstWrongFrom first (down_epochs downs s.number) s.receipts place

pub record IsWrongUp (first : ℕ) (ups : List UpHistory) (s : Seat) (place : ℕ) : Type 0 where
  pub found : IsFirstWrongFrom first (up_epochs ups s.number) s.receipts place

abbrev pub DownReceipts : (first : SessionId → ℕ) → List DownHistory → List Seat → Type 0
DownReceipts first downs seats =
    (k : ℕ) (s : Seat) → slice_get seats k ≡ Some s → IsRightDown (first (Client s.number)) downs s

abbrev pub UpReceipts : (first : SessionId → ℕ) → List UpHistory → List Seat → Type 0
UpReceipts first ups seats =
    (k : ℕ) (s : Seat) → slice_get seats k ≡ Some s → IsRightUp (first (Server s.number)) ups s

-- a seat of this session has its first wrong receipt at this place
abbrev pub HasWrongDown : (first : SessionId → ℕ) → List DownHistory → List Seat → ℕ → ℕ → Type 0
HasWrongDown first downs seats number place =
    (k : ℕ) × ((s : Seat) × (slice_get seats k ≡ Some s) × (s.number ≡ number)
    × IsWrongDown (first (Client s.number)) downs s place)

abbrev pub HasWrongUp : (first : SessionId → ℕ) → List UpHistory → List Seat → ℕ → ℕ → Type 0
HasWrongUp first ups seats number place =
    (k : ℕ) × ((s : Seat) × (slice_get seats k ≡ Some s) × (s.number ≡ number)
    × IsWrongUp (first (Server s.number)) ups s place)

-- so has a seat of this session among those of clients, or among those of servers, if those of clients are right
abbrev pub HasWrong : (first : SessionId → ℕ) → List DownHistory → List UpHistory → (clients servers : List Seat)
    → SessionId → ℕ → Type 0
HasWrong first downs ups clients servers (Client number) place = HasWrongDown first downs clients number place
HasWrong first downs ups clients servers (Server number) place =
    DownReceipts first downs clients × HasWrongUp first ups servers number place

abbrev pub amounts_of : List Seat → ℕ
amounts_of seats = sum_by (λ (s : Seat). s.amount) seats

abbrev pub order_amounts : List Orders → ℕ
order_amounts orders = sum_by (λ (s : Orders). s.amount) orders

-- how many records the calls of all seats made
abbrev pub made_by : (clients servers : List Seat) → List Orders → ℕ
made_by clients servers orders = amounts_of clients + amounts_of servers + order_amounts orders

-- the parts of the ledger that came back: one with each seat of a client or a server, two with the seats of those who
-- give orders, and those that no seat had
abbrev pub parts_back : (rest : ℕ) → (clients servers : List Seat) → ℕ
parts_back rest clients servers = rest + length clients + length servers + 2

-- the histories are those of sessions and bear each other out; each receipt stands; the seats made as many records as
-- there are; no value was dropped
pub record IsClosed (downs : List DownHistory) (ups : List UpHistory) (clients servers : List Seat)
    (orders : List Orders) (c : Closed) : Type 0 where
  pub kept_downs : All IsKeptDown downs
  pub kept_ups : All IsKeptUp ups
  pub borne : BearOut (histories downs ups)
  pub down_receipts : DownReceipts beginning downs clients
  pub up_receipts : UpReceipts beginning ups servers
  pub amounts : made_by clients servers orders ≡ length (records_in downs ups)
  pub balanced : IsBalanced (records_in downs ups)
  pub records : c.records ≡ length (records_in downs ups)
  pub dispatches : c.dispatches ≡ count_of Dispatch (records_in downs ups)
  pub replies : c.replies ≡ count_of Reply (records_in downs ups)

-- THE FIRST CAUSE that stands against it: each comes only where none before it stands

-- no part of the ledger is missing
abbrev pub NoneMissing : (parts rest : ℕ) → (clients servers : List Seat) → Type 0
NoneMissing parts rest clients servers = parts ≤ parts_back rest clients servers

-- the seats made as many records as there are
abbrev pub AreCounted : List DownHistory → List UpHistory → (clients servers : List Seat) → List Orders → Type 0
AreCounted downs ups clients servers orders =
    made_by clients servers orders ≡ length (records_in downs ups)

abbrev pub IsStopped : (parts rest : ℕ) → List DownHistory → List UpHistory → (clients servers : List Seat)
    → List Orders → CloseFault → Type 0
IsStopped parts rest downs ups clients servers orders MissingSeat = parts_back rest clients servers < parts
IsStopped parts rest downs ups clients servers orders (Disagree found) =
    NoneMissing parts rest clients servers × IsFirstFault (histories downs ups) found
IsStopped parts rest downs ups clients servers orders (ReceiptMismatch session place) =
    NoneMissing parts rest clients servers × BearOut (histories downs ups)
    × HasWrong beginning downs ups clients servers session place
-- a count that has reached the greatest number tells nothing more
IsStopped parts rest downs ups clients servers orders Miscount =
    NoneMissing parts rest clients servers × BearOut (histories downs ups) × DownReceipts beginning downs clients
    × UpReceipts beginning ups servers
    × (length (records_in downs ups) < 2 ^ 64 - 1 → made_by clients servers orders ≢ length (records_in downs ups))
IsStopped parts rest downs ups clients servers orders ValueDropped =
    NoneMissing parts rest clients servers × BearOut (histories downs ups) × DownReceipts beginning downs clients
    × UpReceipts beginning ups servers × AreCounted downs ups clients servers orders
    × (¬ IsBalanced (records_in downs ups))
-- that is said of histories that were looked at while the run went on
IsStopped parts rest downs ups clients servers orders (Run fault) = ⊥
