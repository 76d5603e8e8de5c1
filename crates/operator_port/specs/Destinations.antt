-- What was counted of destinations, each in a sample of its own.
use Rattle.std.specs.Prelude.{ℕ, ◌/◌, ◌%◌, ◌==◌, ◌||◌, nat_lt, List, [], ◌∷◌, ◌++◌, flat_map, Option, Some, None, option_map, cond, codes, decimal, if◌then◌else◌}
use Rattle.std.specs.Str.{bytes_eq}
use Rattle.operator_port.specs.declared.destinations.DestinationCounter.{DestinationCounter}
use Rattle.operator_port.specs.declared.destinations.DestinationCounter.TheVariants as counters
use Rattle.operator_port.specs.declared.figures.DestinationRow.{DestinationRow}
use Rattle.operator_port.specs.Escapes.{hex_digit}

-- a byte of a destination: space to ~ stand as they are, but for the quote, % and the backslash
abbrev pub byte_text : ℕ → List ℕ
byte_text b =
    cond (nat_lt b 32 || nat_lt 126 b || b == 34 || b == 37 || b == 92)
    (37 ∷ hex_digit (b / 16) ∷ hex_digit (b % 16) ∷ []) (b ∷ [])

-- the value of its label; no destination has that of all those without a sample
abbrev pub destination_text : Option (List ℕ) → List ℕ
destination_text None = codes "other"
destination_text (Some dst) = if bytes_eq dst (codes "other") then codes "%6fther" else flat_map byte_text dst

abbrev pub destination_figure : DestinationCounter → DestinationRow → ℕ
destination_figure counters.Dispatches row = row.dispatches
destination_figure counters.Nacks row = row.nacks

abbrev pub destination_family : DestinationCounter → List ℕ
destination_family counters.Dispatches = codes "voltgalley_destination_dispatches_total"
destination_family counters.Nacks = codes "voltgalley_destination_nacks_total"

abbrev pub destination_help : DestinationCounter → List ℕ
destination_help counters.Dispatches = codes "Dispatches to the destination that clients sent while it had a route."
destination_help counters.Nacks = codes "Dispatches to the destination that no server could take."

abbrev pub destination_sample : DestinationCounter → DestinationRow → List ℕ
destination_sample counter row =
    destination_family counter ++ (codes "{destination=\"" ++ (destination_text (option_map (λ d. d.items) row.dst)
    ++ (codes "\"} " ++ decimal (destination_figure counter row))))
