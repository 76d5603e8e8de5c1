-- How the records of steps are counted.
use Rattle.std.specs.Prelude.{◌≡◌, ◌+◌, ◌-◌, ◌^◌, ℕ, min, max}

-- the records of the present history that a step added are counted, up to the greatest number
abbrev pub Counts : (before after : ℕ) → (old new : ℕ) → Type 0
Counts before after old new = new ≡ max old (min (old + (after - before)) (2 ^ 64 - 1))
