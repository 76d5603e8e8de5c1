-- The end of an epoch that nobody asked for.
use Rattle.std.specs.Prelude.{◌≡◌, ◌<◌, ◌/◌, Option, Result, Ok, Err}
use Rattle.mux_history.specs.Log.{Log}
use Rattle.kept_session.specs.ReachedDown.{KeptDown}
use Rattle.kept_session.specs.declared.ending.EpochEnd.{EpochEnd}
use Rattle.kept_session.specs.declared.ending.EpochEnd.TheVariants.{Roll}
use Rattle.kept_session.specs.declared.ending.EpochRefusal.TheVariants.{Early}
use Rattle.kept_session.specs.declared.ending.EpochRefused.{EpochRefused}
use Rattle.hub_steps.specs.Down.{EndsDown, held_down}

-- it was to be rolled before an eighth of the places of a history was written, so nothing is done
abbrev pub IsEarly : Option KeptDown → Option KeptDown → EpochEnd → (fresh : Log) → Result (Unit {0}) EpochRefused
    → Type 0
IsEarly before after how fresh (Ok done) = ⊥
IsEarly before after how fresh (Err e) =
    (how ≡ Roll) × (e.why ≡ Early) × (held_down before < fresh.room / 8) × (after ≡ before)
