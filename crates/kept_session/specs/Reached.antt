-- The pasts that a session may have, and the states that belong to them.
use Rattle.std.specs.Prelude.{◌≡◌, List, [], ◌∷◌, ◌++◌, All}
use Rattle.mux_history.specs.Log.{Log}
use Rattle.mux_history.specs.declared.record.Record.{Record}
use Rattle.mux_history.specs.declared.session.InitMode.{InitMode}
use Rattle.mux_legal.specs.Sessions.{IsReachedUp}
use Rattle.client_session.specs.Past.{Past}
use Rattle.client_session.specs.State.{State}
use Rattle.client_session.specs.Belonging.{Belongs}
use Rattle.kept_session.specs.Histories.{AreBehind, with_present}

-- what contracts see: how the session was begun, its histories that ended and that it hasn't given up, the oldest first,
-- and its state, which has the records of the present one
pub record Kept : Type 0 where
  pub mode : InitMode
  pub ended : List Log
  pub state : State

-- the session was begun so, and its own calls led to its list
abbrev pub IsReached : InitMode → Past → Type 0
IsReached mode p = (p.session.mode ≡ mode) × IsReachedUp p.session p.steps

-- the state belongs to a past that its calls led to, and the records of all its histories, those in front that it gave up
-- among them, are those of that past
abbrev pub IsKept : Kept → Type 0
IsKept k =
    (p : Past) × IsReached k.mode p × Belongs k.state p
    × (gone : List Log) × AreBehind gone k.ended k.state.records k.state.epoch p.steps

-- from each past that it may have the session has made this step; if it had all records before, it has all of the step
abbrev pub Leads : (old new : Kept) → (Past → Past → Type 0) → Type 0
Leads old new R =
    (p : Past) → IsReached old.mode p → Belongs old.state p
    → (q : Past) × R p q × IsReached new.mode q × Belongs new.state q
    × ((gone : List Log) → AreBehind gone old.ended old.state.records old.state.epoch p.steps
    → AreBehind gone new.ended new.state.records new.state.epoch q.steps)

-- it has made this step, by which no history ends
abbrev pub StepsBy : (old new : Kept) → (Past → Past → Type 0) → Type 0
StepsBy old new R = (new.mode ≡ old.mode) × (new.ended ≡ old.ended) × Leads old new R

-- it has made this step, and this history stands behind those that ended before
abbrev pub EndsBy : Log → (old new : Kept) → (Past → Past → Type 0) → Type 0
EndsBy log old new R = (new.mode ≡ old.mode) × (new.ended ≡ old.ended ++ log ∷ []) × Leads old new R

-- some session that was kept had these records, the oldest first, as its last history
abbrev pub WasKept : List Record → Type 0
WasKept rs = (k : Kept) × IsKept k × (k.state.records ≡ rs)

-- such a session had the records of each
abbrev pub WereKept : List Log → Type 0
WereKept logs = All (λ h. WasKept h.records) logs

-- one session that was kept had them, the last of them as the present one: all of its histories but those that it gave up
abbrev pub IsAllOfOne : List Log → Type 0
IsAllOfOne logs = (k : Kept) × IsKept k × (logs ≡ with_present k.ended k.state.records k.state.limits.history)
