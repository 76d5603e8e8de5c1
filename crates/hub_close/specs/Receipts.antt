-- Receipts, and the places of histories that they speak of.
use Rattle.std.specs.Prelude.{◌≡◌, ◌+◌, ◌<◌, ◌⊎◌, ◌++◌, ◌%◌, ℕ, zero, suc, List, [], ◌∷◌, Option, Some, None, Bool, false, if◌then◌else◌, length, nat_eq, nat_lt, slice_get}
use Rattle.mux_history.specs.Log.{Log}
use Rattle.mux_agree.specs.declared.agreement.histories.DownHistory.{DownHistory}
use Rattle.mux_agree.specs.declared.agreement.histories.UpHistory.{UpHistory}
use Rattle.hub_close.specs.declared.receipt.Receipt.{Receipt}
use Rattle.hub_close.specs.declared.receipt.Stub.{Stub}

-- what a seat keeps of a receipt
abbrev pub stub_of : Receipt → Stub
stub_of r = record { kept = r.kept; place = r.place; epoch = r.epoch }

-- those that a slot holds of this session: it may hold another's
abbrev pub epochs_of_client : ℕ → Option DownHistory → List Log
epochs_of_client client (Some h) = if nat_eq h.client client then h.epochs.items else []
epochs_of_client client None = []

abbrev pub epochs_of_server : ℕ → Option UpHistory → List Log
epochs_of_server server (Some h) = if nat_eq h.server server then h.epochs.items else []
epochs_of_server server None = []

-- the epochs of a client, whose numbers count from 1: those that its slot holds of it. Clients have the slots in turn, and
-- behind the last slot comes the first again
abbrev pub down_epochs : List DownHistory → ℕ → List Log
down_epochs downs zero = []
down_epochs downs (suc k) = epochs_of_client (suc k) (slice_get downs (k % length downs))

-- those of a server, whose numbers count from 0
abbrev pub up_epochs : List UpHistory → ℕ → List Log
up_epochs ups server = epochs_of_server server (slice_get ups (server % length ups))

-- the receipt's place has its record, in epochs whose numbers count from the first's
abbrev pub StandsFrom : ℕ → List Log → Stub → Type 0
StandsFrom first epochs r =
    (k : ℕ) × (h : Log) × (r.epoch ≡ first + k) × (slice_get epochs k ≡ Some h)
    × (slice_get h.records r.place ≡ Some r.kept)

-- by epoch, and within one by place
abbrev pub IsBelow : Stub → Stub → Type 0
IsBelow a b = (a.epoch < b.epoch) ⊎ ((a.epoch ≡ b.epoch) × (a.place < b.place))

-- the receipt at this place is above the one before it, if there is one
abbrev pub IsAbove : List Stub → ℕ → Type 0
IsAbove receipts at = (k : ℕ) (a b : Stub) → at ≡ k + 1 → slice_get receipts k ≡ Some a → slice_get receipts at ≡ Some b → IsBelow a b

abbrev pub StandAllFrom : ℕ → List Log → List Stub → Type 0
StandAllFrom first epochs receipts = (k : ℕ) (r : Stub) → slice_get receipts k ≡ Some r → StandsFrom first epochs r

abbrev pub Rise : List Stub → Type 0
Rise receipts = (k : ℕ) (a b : Stub) → slice_get receipts k ≡ Some a → slice_get receipts (k + 1) ≡ Some b → IsBelow a b

-- each receipt before this place stands, and is above the one before it
abbrev pub AreRightFrom : ℕ → List Log → List Stub → ℕ → Type 0
AreRightFrom first epochs receipts at =
    ((k : ℕ) (r : Stub) → k < at → slice_get receipts k ≡ Some r → StandsFrom first epochs r)
    × ((k : ℕ) → k < at → IsAbove receipts k)

-- the first receipt that doesn't stand, or isn't above the one before it, is at this place
abbrev pub IsFirstWrongFrom : ℕ → List Log → List Stub → ℕ → Type 0
IsFirstWrongFrom first epochs receipts at =
    AreRightFrom first epochs receipts at
    × ((r : Stub) × (slice_get receipts at ≡ Some r) × ((¬ StandsFrom first epochs r) ⊎ (¬ IsAbove receipts at)))

-- there is a first receipt, and it is of an epoch below this one
abbrev pub is_behind : ℕ → List Stub → Bool
is_behind epoch [] = false
is_behind epoch (r ∷ rs) = nat_lt r.epoch epoch

-- the receipts of these epochs are gone from the front: each of them stands, and is above the one before it
abbrev pub Settles : ℕ → List Log → List Stub → List Stub → Type 0
Settles first epochs old new =
    (gone : List Stub) × (old ≡ gone ++ new) × StandAllFrom first epochs gone × Rise gone
    × (is_behind (first + length epochs) new ≡ false)
