-- The first session of a slot.
use Rattle.std.proofs.Common.{ℕ, ◌≡◌, ◌<◌, ◌%◌}
use Rattle.std.proofs.Math.Nat.{mod-eq_of_lt}

pub first_place : (place slots : ℕ) → place < slots → place % slots ≡ place
first_place place slots l = mod-eq_of_lt l
