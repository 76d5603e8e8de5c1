-- The receipts of a seat, as contracts see them.
use Rattle.std.specs.Prelude.{ℕ, List}
use Rattle.hub_close.specs.declared.receipt.Stub.{Stub}

pub record Receiving : Type 0 where
  pub list : List Stub
  -- for how many receipts there is room
  pub room : ℕ
  -- by how many the room grows
  pub step : ℕ
