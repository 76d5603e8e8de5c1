-- The choice of one server, by the loads as they were read.
use Rattle.std.specs.Prelude.{ℕ, List, Option, Some, None, ◌≡◌, ◌≢◌, ◌<◌, ◌≤◌, ◌⊎◌, if◌then◌else◌, nat_lt, slice_index}

-- what may be read of a server: nothing of the one that is left out, and of another a load, or that it isn't there
abbrev pub MayRead : {S : Type 0} → (S → ℕ → Option ℕ → Type 0) → S → Option ℕ → ℕ → Option ℕ → Type 0
MayRead reads loads but server read = (but ≡ Some server → read ≡ None) × (but ≢ Some server → reads loads server read)

-- `read` has what was read at each of the first `count` places of these servers
abbrev pub AreRead : {S : Type 0} → (S → ℕ → Option ℕ → Type 0) → S → Option ℕ → List ℕ → ℕ → (ℕ → Option ℕ) → Type 0
AreRead reads loads but servers count read = (k : ℕ) → k < count → MayRead reads loads but (slice_index servers k) (read k)

-- the load at this place is the least at the first `count` places, and the first of those that are equal
abbrev pub IsLeastAt : (ℕ → Option ℕ) → ℕ → (place load : ℕ) → Type 0
IsLeastAt read count place load =
    (place < count) × (read place ≡ Some load)
    × ((k other : ℕ) → k < count → read k ≡ Some other → (load < other) ⊎ ((load ≡ other) × (place ≤ k)))

-- the server with the least load at the first `count` places, with that load; none if no load was read
abbrev pub IsChoice : List ℕ → ℕ → (ℕ → Option ℕ) → Option (ℕ × ℕ) → Type 0
IsChoice servers count read None = (k : ℕ) → k < count → read k ≡ None
IsChoice servers count read (Some (server, load)) =
    (place : ℕ) × (slice_index servers place ≡ server) × IsLeastAt read count place load

-- the lesser of a choice and a server with its load; the choice at equal loads
abbrev pub lesser : Option (ℕ × ℕ) → ℕ → Option ℕ → Option (ℕ × ℕ)
lesser choice server None = choice
lesser None server (Some load) = Some (server, load)
lesser (Some (chosen, least)) server (Some load) = if nat_lt load least then Some (server, load) else Some (chosen, least)
