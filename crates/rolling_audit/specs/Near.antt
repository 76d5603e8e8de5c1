-- Where the table of a map keeps a dispatch.
use Rattle.std.specs.Prelude.{ℕ, List, ◌+◌, ◌*◌, ◌/◌, ◌%◌, ◌^◌, fold}

-- a number of eight bytes, the least first, behind one byte more
abbrev pub next_of : ℕ → ℕ → ℕ
next_of number byte = number / 256 + byte * 2 ^ 56

-- a client, and then the number of its dispatch
abbrev pub mixed : ℕ → List ℕ → ℕ
mixed s bytes = (s * 11400714819323198485 + fold next_of 0 bytes) % 2 ^ 64

abbrev pub run_of : ℕ → ℕ
run_of h = h / 16 * 11400714819323198485 % 2 ^ 64

abbrev pub near : ℕ → ℕ
near h = h % 16 + run_of h / 2 ^ 44 * 16 + run_of h / 2 ^ 36 % 256 * 2 ^ 24
