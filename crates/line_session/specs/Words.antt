-- Words of a line.
use Rattle.std.specs.Prelude.{ℕ, ◌≡◌, ◌==◌, ◌<◌, ◌^◌, nat_le, List, length, Bool, not, ◌&&◌}
use Rattle.std.specs.List.{list_all}
use Rattle.std.specs.Str.Parse.{IsNumeral, digits_value}

-- no byte is this one
abbrev pub lacks : ℕ → List ℕ → Bool
lacks byte text = list_all (λ b. not (b == byte)) text

-- a server's name on a line: one byte at least, and no space and no comma among them
abbrev pub is_name : List ℕ → Bool
is_name text = nat_le 1 (length text) && (lacks 32 text && lacks 44 text)

-- decimal digits, one at least, write this number of 64 bits
abbrev pub Writes : List ℕ → ℕ → Type 0
Writes digits number = IsNumeral 10 digits × (digits_value 10 digits ≡ number) × (number < 2 ^ 64)
