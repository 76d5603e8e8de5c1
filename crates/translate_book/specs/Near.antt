-- The hash of a number: its place in the table of a map. No contract of a map depends on it.
use Rattle.std.specs.Prelude.{ℕ, ◌+◌, ◌*◌, ◌/◌, ◌%◌, ◌^◌}

-- The state behind one more byte of a number, whose lowest byte comes first.
abbrev pub next_of : ℕ → ℕ → ℕ
next_of h b = h / 256 + b * 2 ^ 56

-- The number, which fills all eight bytes or the upper four.
abbrev pub number_of : ℕ → ℕ
number_of h = h % 2 ^ 32 + h / 2 ^ 32

abbrev pub near : ℕ → ℕ
near h = number_of h / 8 % 8 + number_of h / 64 * 106039 % 2 ^ 64 / 65536 % 65536 * 8 + number_of h % 256 * 16777216
