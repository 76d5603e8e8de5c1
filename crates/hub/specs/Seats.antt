-- Seats, as contracts see them.
use Rattle.std.specs.Prelude.{ℕ, List}
use Rattle.route_table.specs.Routes.{Change}
use Rattle.hub_close.specs.declared.receipt.Stub.{Stub}

-- the seat of a client or of a server
pub record Seat : Type 0 where
  pub number : ℕ
  -- how many records the seat's calls made
  pub amount : ℕ
  -- the receipts, the oldest first; for how many there is room, and by how many it grows
  pub receipts : List Stub
  pub room : ℕ
  pub step : ℕ
  -- the orders that it has seen or was told of, the oldest first
  pub orders : List Change

-- the seat of one who gives orders
pub record Orders : Type 0 where
  pub amount : ℕ
  pub orders : List Change
