-- How long a server that is lost is left alone, or one that fails is asked last.
use Rattle.std.specs.Prelude.{ℕ, ◌*◌, ◌^◌, ◌≤◌, min}

-- how often the time doubles
abbrev pub most_doublings : ℕ
most_doublings = 6

-- the greatest first time, in milliseconds: an hour
abbrev pub longest : ℕ
longest = 3600000

-- the time after so many failures in a row, in milliseconds
abbrev pub whole_wait : (first failures : ℕ) → ℕ
whole_wait first failures = first * 2 ^ min failures most_doublings

-- at most that, and less by an eighth at most: not all servers come back at once
abbrev pub IsWait : (first failures wait : ℕ) → Type 0
IsWait first failures wait = (wait ≤ whole_wait first failures) × (7 * whole_wait first failures ≤ 8 * wait)
