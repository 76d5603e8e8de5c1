-- How a reading of the clock reaches the sessions towards servers.
use Rattle.std.specs.Prelude.{◌≡◌, ◌+◌, ℕ, Result, Err}
use Rattle.translate_book.specs.declared.refusal.StepRefusal.{StepRefusal}
use Rattle.translate_book.specs.declared.refusal.StepRefusal.TheVariants.{Closed}
use Rattle.mux_model.specs.Steps.{ClockCall}
use Rattle.client_session.specs.Steps.{NoteStep}
use Rattle.hub_steps.specs.Up.{MayKeep}
use Rattle.hub_slots.specs.Locked.{LockedUp}

-- whoever is in a slot was handed this reading, and took or refused it
abbrev pub TakesReading : (now : ℕ) → Type 0
TakesReading now =
    (result : Result (Unit {0}) StepRefusal)
    × LockedUp MayKeep (λ p q. NoteStep p (ClockCall now) result q) (result ≡ Err Closed)

-- so many slots, one after another
pub data Clocks (now : ℕ) : (many : ℕ) → Type 0 where
  none : Clocks now 0
  next : {many : ℕ} → TakesReading now → Clocks now many → Clocks now (many + 1)
