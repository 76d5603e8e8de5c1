-- What contracts see of a place, and which slot its pass adds for.
use Rattle.std.specs.Prelude.{◌≡◌, ◌+◌, ℕ, Option}
use Rattle.std.specs.Option.{ForSome}
use Rattle.hub_log.specs.Views.{View}

-- the number of the session that is there or was there last, and the session
pub record Seating (S : Type 0) : Type 0 where
  pub number : ℕ
  pub session : Option S

-- the pass adds for the slot at this place alone, if there is one
abbrev pub AtHome : (home : Option ℕ) → View → Type 0
AtHome home v = ForSome home (λ h. (v.low ≡ h) × (v.high ≡ h + 1))
