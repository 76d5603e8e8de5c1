-- The choice among the sessions of so many slots.
use Rattle.std.specs.Prelude.{ℕ, List, Option, Some, None, ◌≡◌, ◌<◌, ◌≤◌, length}
use Rattle.balancer.specs.Least.{AreRead, IsChoice}

-- each slot shows a load, and there are so many
abbrev pub HasLoad : ℕ → ℕ → Option ℕ → Type 0
HasLoad slots server None = slots ≤ server
HasLoad slots server (Some load) = server < slots

-- the server of a choice, without its load
abbrev pub server_of : Option (ℕ × ℕ) → Option ℕ
server_of None = None
server_of (Some (server, load)) = Some server

-- the server with a slot that showed the least load when it was read, but not this one; the earlier one at equal loads
abbrev pub Chooses : ℕ → (but : Option ℕ) → List ℕ → Option ℕ → Type 0
Chooses slots but servers chosen = (read : ℕ → Option ℕ) × (choice : Option (ℕ × ℕ))
    × AreRead HasLoad slots but servers (length servers) read
    × IsChoice servers (length servers) read choice × (chosen ≡ server_of choice)
