-- Seconds, exactly, with as many digits behind the point as they are counted by.
use Rattle.std.specs.Prelude.{ℕ, ◌-◌, ◌/◌, ◌%◌, List, ◌++◌, Option, Some, None, codes, decimal}

-- the last three digits of a number
abbrev pub three_digits : ℕ → List ℕ
three_digits n = decimal (n / 100 % 10) ++ (decimal (n / 10 % 10) ++ decimal (n % 10))

abbrev pub seconds_of_millis : ℕ → List ℕ
seconds_of_millis n = decimal (n / 1000) ++ (codes "." ++ three_digits n)

abbrev pub seconds_of_micros : ℕ → List ℕ
seconds_of_micros n = seconds_of_millis (n / 1000) ++ three_digits n

-- what is left of a lease, 0 once it has lapsed; nothing limits a server without one
abbrev pub lease_seconds : (lapse : Option ℕ) → (now : ℕ) → List ℕ
lease_seconds None now = codes "+Inf"
lease_seconds (Some lapse) now = seconds_of_millis (lapse - now)
