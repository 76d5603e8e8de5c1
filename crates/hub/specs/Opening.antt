-- What a hub is opened with, for its log.
use Rattle.std.specs.Prelude.{◌≡◌, ◌≤◌, ◌+◌, ℕ, []}
use Rattle.hub_log.specs.Views.{View}

-- the pass has seen nothing, has nothing in hand, and has so many slots from the first one on
abbrev pub IsFresh : (first count : ℕ) → View → Type 0
IsFresh first count v = (v.seen ≡ []) × (v.told ≡ []) × (v.hands ≡ []) × (v.low ≡ first) × (first + count ≤ v.high)
