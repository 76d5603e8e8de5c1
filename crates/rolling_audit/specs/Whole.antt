-- Whole histories that an audit takes one after the other.
use Rattle.std.specs.Prelude.{List, ◌∷◌, ◌++◌, reverse}
use Rattle.mux_agree.specs.Walk.{Kept}
use Rattle.rolling_audit.specs.declared.rolling.RollingAudit.{RollingAudit}
use Rattle.rolling_audit.specs.Taken.{IsTaken}

-- it goes on to belong to the histories with this one in front of them
abbrev pub TakesWhole : RollingAudit → Kept → RollingAudit → Type 0
TakesWhole old h new = (hs : List Kept) → IsTaken hs old → IsTaken (h ∷ hs) new

-- with all of these in front, the last first
abbrev pub TakesEach : RollingAudit → List Kept → RollingAudit → Type 0
TakesEach old ks new = (hs : List Kept) → IsTaken hs old → IsTaken (reverse ks ++ hs) new
