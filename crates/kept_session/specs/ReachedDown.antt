-- The pasts that a session towards a client may have, and the states that belong to them.
use Rattle.std.specs.Prelude.{◌≡◌, List, [], ◌∷◌, ◌++◌, All}
use Rattle.mux_history.specs.Log.{Log}
use Rattle.mux_history.specs.declared.record.Record.{Record}
use Rattle.mux_legal.specs.Sessions.{IsReachedDown}
use Rattle.server_session.specs.Past.{Past}
use Rattle.server_session.specs.State.{State}
use Rattle.server_session.specs.Belonging.{Belongs}
use Rattle.kept_session.specs.Histories.{AreBehind, with_present}

-- what contracts see: the histories that ended and weren't given up, the oldest first, and the state, which has the records
-- of the present one
pub record KeptDown : Type 0 where
  pub ended : List Log
  pub state : State

-- the session's own calls led to its list
abbrev pub IsLedDown : Past → Type 0
IsLedDown p = IsReachedDown p.session p.steps

-- the state belongs to a past that its calls led to, and the records of all its histories, those in front that it gave up
-- among them, are those of that past
abbrev pub IsKeptDown : KeptDown → Type 0
IsKeptDown k =
    (p : Past) × IsLedDown p × Belongs k.state p
    × (gone : List Log) × AreBehind gone k.ended k.state.records k.state.epoch p.steps

-- from each past that it may have the session has made this step; if it had all records before, it has all of the step
abbrev pub LeadsDown : (old new : KeptDown) → (Past → Past → Type 0) → Type 0
LeadsDown old new R =
    (p : Past) → IsLedDown p → Belongs old.state p
    → (q : Past) × R p q × IsLedDown q × Belongs new.state q
    × ((gone : List Log) → AreBehind gone old.ended old.state.records old.state.epoch p.steps
    → AreBehind gone new.ended new.state.records new.state.epoch q.steps)

-- it has made this step, by which no history ends
abbrev pub StepsDown : (old new : KeptDown) → (Past → Past → Type 0) → Type 0
StepsDown old new R = (new.ended ≡ old.ended) × LeadsDown old new R

-- it has made this step, and this history stands behind those that ended before
abbrev pub EndsDown : Log → (old new : KeptDown) → (Past → Past → Type 0) → Type 0
EndsDown log old new R = (new.ended ≡ old.ended ++ log ∷ []) × LeadsDown old new R

-- some session that was kept had these records, the oldest first, as its last history
abbrev pub WasKeptDown : List Record → Type 0
WasKeptDown rs = (k : KeptDown) × IsKeptDown k × (k.state.records ≡ rs)

-- such a session had the records of each
abbrev pub WereKeptDown : List Log → Type 0
WereKeptDown logs = All (λ h. WasKeptDown h.records) logs

-- one session that was kept had them, the last of them as the present one: all of its histories but those that it gave up
abbrev pub IsAllOfOneDown : List Log → Type 0
IsAllOfOneDown logs = (k : KeptDown) × IsKeptDown k × (logs ≡ with_present k.ended k.state.records k.state.limits.history)
