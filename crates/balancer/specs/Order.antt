-- The order in which servers are tried: least load first, ties by place.
use Rattle.std.specs.Prelude.{ℕ, List, ◌≡◌, ◌+◌, ◌<◌, ◌⊎◌, slice_index, length, map, IsPermutation}
use Rattle.std.specs.List.{range_with_len}

-- the pair (load, place) of the one is less than that of the other
abbrev pub IsBefore : List ℕ → ℕ → ℕ → Type 0
IsBefore loads a b =
    (slice_index loads a < slice_index loads b) ⊎ ((slice_index loads a ≡ slice_index loads b) × (a < b))

-- the permutation of the places 0, 1, .. in which each next pair (load, place) is greater
pub record IsOrder (loads order : List ℕ) : Type 0 where
  pub places : IsPermutation order (range_with_len 0 (length loads))
  pub rises : (k : ℕ) → k + 1 < length order → IsBefore loads (slice_index order k) (slice_index order (k + 1))

-- the loads of candidates, each a server with its load
abbrev pub loads_of : List (ℕ × ℕ) → List ℕ
loads_of candidates = map (λ c. c.1) candidates

-- the servers of candidates
abbrev pub servers_of : List (ℕ × ℕ) → List ℕ
servers_of candidates = map (λ c. c.0) candidates

-- the servers at these places
abbrev pub servers_in : List (ℕ × ℕ) → List ℕ → List ℕ
servers_in candidates places = map (λ p. slice_index (servers_of candidates) p) places
