-- When a reader ends its session's epoch, and what it does with a frame for whose record there is no place.
use Rattle.std.specs.Prelude.{ℕ, Bool, true, false, nat_le, ◌/◌}
use Rattle.router_state.specs.declared.seat.Rolled.{Rolled}
use Rattle.router_state.specs.declared.seat.Rolled.TheVariants.{Begun, NoMemory, Refused}
use Rattle.router_traffic.specs.declared.places.Next.{Next}
use Rattle.router_traffic.specs.declared.places.Next.TheVariants.{Again, Wait, End}

-- by what came of the wish to end the epoch, and whether the epoch is new: the next epoch has places, unless the
-- session holds too much for it; memory may come back
abbrev pub next_by : Rolled → (is_new : Bool) → Next
next_by Begun false = Again
next_by Begun true = End
next_by NoMemory is_new = Wait
next_by Refused is_new = End

-- one in so many of a history's records
abbrev pub crowded_share : ℕ
crowded_share = 32

-- whether an epoch is ended between two batches: once few of its places are left, and not at once again if that was so
-- when it began
abbrev pub rolls_by : (wants_rest is_crowded : Bool) → (since history : ℕ) → Bool
rolls_by false is_crowded since history = false
rolls_by true false since history = true
rolls_by true true since history = nat_le (history / crowded_share) since
