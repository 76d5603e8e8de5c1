-- What is left of a server's lease.
use Rattle.std.specs.Prelude.{ℕ, ◌-◌, List, Option, Some, None, codes, decimal}

-- the milliseconds that are left at a moment, 0 once it has lapsed
abbrev pub lease_text : (lapse : Option ℕ) → (now : ℕ) → List ℕ
lease_text None now = codes "none"
lease_text (Some lapse) now = decimal (lapse - now)
