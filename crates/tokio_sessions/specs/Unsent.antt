-- What a clause sees of the bytes that wait to be written.
use Rattle.std.specs.Prelude.{ℕ, Bool, List}

-- the bytes, and whether no frame may join them
pub record Unsent : Type 0 where
  pub bytes : List ℕ
  pub is_full : Bool
