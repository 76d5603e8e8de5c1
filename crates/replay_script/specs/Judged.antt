-- What a judge hands over: of each session the records of the histories that ended, and then those that the core gives.
use Rattle.std.specs.Prelude.{ℕ, zero, suc, ◌-◌, List, [], ◌∷◌, ◌++◌, Option, Some, None}
use Rattle.mux_history.specs.declared.record.Record.{Record}
use Rattle.mux_history.specs.declared.session.SessionId.{SessionId}
use Rattle.mux_history.specs.declared.session.InitMode.{InitMode}
use Rattle.mux_agree.specs.Walk.{Kept}
use Rattle.router_core.specs.Worlds.{CoreView}
use Rattle.router_core.specs.Looks.{records_at}

-- the records of a session's present history; none if it isn't there
abbrev pub records_or_none : Option (List Record) → List Record
records_or_none (Some rs) = rs
records_or_none None = []

abbrev pub present : CoreView → SessionId → List Record
present core id = records_or_none (records_at core id)

-- a session that has written nothing down
abbrev pub begun : SessionId → InitMode → Kept
begun id mode = record { session = id; mode = mode; records = [] }

-- and one whose next history has these records
abbrev pub with_epoch : List Record → Kept → Kept
with_epoch rs k = record { session = k.session; mode = k.mode; records = k.records ++ rs }

abbrev pub whole : CoreView → Kept → Kept
whole core k = with_epoch (present core k.session) k

abbrev pub with_epoch_at : ℕ → List Record → List Kept → List Kept
with_epoch_at place rs [] = []
with_epoch_at zero rs (k ∷ ks) = with_epoch rs k ∷ ks
with_epoch_at (suc place) rs (k ∷ ks) = k ∷ with_epoch_at place rs ks

-- sessions are numbered from 1
abbrev pub with_epoch_of : (number : ℕ) → List Record → List Kept → List Kept
with_epoch_of number rs ks = with_epoch_at (number - 1) rs ks
