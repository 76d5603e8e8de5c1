-- Bytes of a text between quotes.
use Rattle.std.specs.Prelude.{ℕ, ◌+◌, ◌/◌, ◌%◌, ◌==◌, ◌||◌, nat_lt, List, [], ◌∷◌, ◌++◌, cond, codes}

-- of a label's value in Prometheus' text format
abbrev pub label_byte : ℕ → List ℕ
label_byte b = cond (b == 10) (codes "\\n") (cond (b == 34 || b == 92) (92 ∷ b ∷ []) (b ∷ []))

-- a hexadecimal digit
abbrev pub hex_digit : ℕ → ℕ
hex_digit n = cond (nat_lt n 10) (48 + n) (87 + n)

-- of a text in TOML
abbrev pub toml_byte : ℕ → List ℕ
toml_byte b =
    cond (b == 34 || b == 92) (92 ∷ b ∷ [])
    (cond (nat_lt b 32 || b == 127) (codes "\\u00" ++ ((48 + b / 16) ∷ (hex_digit (b % 16)) ∷ [])) (b ∷ []))
