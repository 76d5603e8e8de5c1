-- What an audit may forget of a run.
use Rattle.std.specs.Prelude.{ℕ, List, ◌≡◌, ◌≤◌, true}
use Rattle.mux_history.specs.Bounds.{Bounds}
use Rattle.mux_history.specs.declared.name.Name.{Name}
use Rattle.mux_history.specs.Readings.{gives_name}
use Rattle.mux_agree.specs.Agree.{has, times}
use Rattle.mux_agree.specs.Walk.{Kept, all_records, client_records}
use Rattle.mux_model.specs.Events.{Event, AllChooseFree}
use Rattle.mux_model.specs.World.{start}
use Rattle.rolling_audit.specs.declared.life.Life.{Life}
use Rattle.rolling_audit.specs.Known.{AreBeginnings, EachIsDueBy}
use Rattle.rolling_audit.specs.Lives.{IsLife, is_done}
use Rattle.audit_laws.specs.AuditedRuns.{histories_of}

-- of a run, where what was taken of the histories of a boot tells that a dispatch is done with, none of the records
-- that are left names it: so its life may be dropped
abbrev pub DoneForGood : Type 0
DoneForGood =
    (limits : Bounds) (boot : ℕ) (events : List (ℕ × Event)) → AllChooseFree (start limits boot) events → (b : ℕ)
    → (taken : List Kept) → AreBeginnings taken (histories_of limits boot events b)
    → (n : Name) (l : Life) → IsLife n (client_records taken) (all_records taken) l → EachIsDueBy n l.due taken
    → is_done l ≡ true
    → times (λ k. true) n (all_records taken) ≡ times (λ k. true) n (all_records (histories_of limits boot events b))

-- each dispatch that a record of a boot names was taken by a session of its client in that boot
abbrev pub EveryNameIsTaken : Type 0
EveryNameIsTaken =
    (limits : Bounds) (boot : ℕ) (events : List (ℕ × Event)) → AllChooseFree (start limits boot) events → (b : ℕ)
    → (n : Name) → 1 ≤ times (λ k. true) n (all_records (histories_of limits boot events b))
    → has gives_name n (client_records (histories_of limits boot events b)) ≡ true
