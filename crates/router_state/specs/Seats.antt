-- What the seat of a connection hands in.
use Rattle.std.specs.Prelude.{◌≡◌, ℕ, List, [], ◌++◌}
use Rattle.mux_frame.specs.Views.{FrameView}
use Rattle.hub_close.specs.declared.receipt.Stub.{Stub}
use Rattle.hub.specs.Seats.{Seat}
use Rattle.hub.specs.Batches.{RunsDown, RunsUp}
use Rattle.router_state.specs.declared.seat.AnySeat.{AnySeat}
use Rattle.router_state.specs.declared.seat.AnySeat.TheVariants.{Client, Server}

-- in a hub with so many slots, frames were taken off the front by steps of the seat's own session at this reading, and
-- what they led to was handed on
abbrev pub Runs : {L : Type 0} → (now downs ups window server_window : ℕ) → (before after : List FrameView)
    → AnySeat L → AnySeat L → Type 0
Runs now downs ups window server_window before after (Client s) (Client t) =
    RunsDown now downs ups window s.number before after s.receipts t.receipts [] s.orders t.orders
Runs now downs ups window server_window before after (Server s) (Server t) =
    RunsUp now downs ups server_window s.number before after s.receipts t.receipts [] s.orders t.orders
Runs now downs ups window server_window before after (Client s) (Server t) = ⊥
Runs now downs ups window server_window before after (Server s) (Client t) = ⊥

-- the seat acts for the same session
abbrev pub IsSame : {L : Type 0} → AnySeat L → AnySeat L → Type 0
IsSame (Client s) (Client t) = t.number ≡ s.number
IsSame (Server s) (Server t) = t.number ≡ s.number
IsSame (Client s) (Server t) = ⊥
IsSame (Server s) (Client t) = ⊥

-- no frame was handed in: some of the oldest receipts may be gone, and none has come
pub record Stays (s t : Seat) : Type 0 where
  pub number : t.number ≡ s.number
  pub orders : t.orders ≡ s.orders
  pub gone : List Stub
  pub receipts : s.receipts ≡ gone ++ t.receipts

abbrev pub GoesOn : {L : Type 0} → AnySeat L → AnySeat L → Type 0
GoesOn (Client s) (Client t) = Stays s t
GoesOn (Server s) (Server t) = Stays s t
GoesOn (Client s) (Server t) = ⊥
GoesOn (Server s) (Client t) = ⊥
