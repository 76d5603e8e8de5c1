-- The records of a session, over all its histories.
use Rattle.std.specs.Prelude.{◌≡◌, ◌+◌, ℕ, List, [], ◌∷◌, ◌++◌, length, reverse}
use Rattle.mux_history.specs.Log.{Log}
use Rattle.mux_history.specs.declared.record.Record.{Record}
use Rattle.mux_agree.specs.Walk.{joined}
use Rattle.mux_model.specs.Steps.{Step, records}

-- those of the histories that ended, and then those of the present one, the oldest first
abbrev pub all_of : (ended : List Log) → (present : List Record) → List Record
all_of ended present = joined ended ++ present

-- they are all that the steps have written
abbrev pub AreAll : (ended : List Log) → (present : List Record) → List Step → Type 0
AreAll ended present steps = all_of ended present ≡ reverse (records steps)

-- with those that were given up in front they are all that the steps have written, and as many ended as the number of
-- the epoch says
pub record AreBehind (gone ended : List Log) (present : List Record) (epoch : ℕ) (steps : List Step) : Type 0 where
  pub all : AreAll (gone ++ ended) present steps
  pub count : length gone + length ended ≡ epoch

-- the present history as one of them
abbrev pub with_present : (ended : List Log) → (present : List Record) → (room : ℕ) → List Log
with_present ended present room = ended ++ record { records = present; room = room } ∷ []
