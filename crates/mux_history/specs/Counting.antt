-- How many records of a list are of each kind that is counted, whatever a kind holds.
use Rattle.std.specs.Prelude.{◌≡◌, ℕ, ◌+◌, ◌-◌, ◌^◌, Bool, true, false, List, cond, count_by, max, min}
use Rattle.mux_history.specs.declared.counts.KindCounts.{KindCounts}
use Rattle.mux_history.specs.declared.record.Record.{Record}
use Rattle.mux_history.specs.declared.shape.Shape.{Shape}
use Rattle.mux_history.specs.declared.shape.Shape.TheVariants as shapes
use Rattle.mux_history.specs.Packing.{shape_of}

abbrev pub is_took : Shape → Bool
is_took shapes.Took = true
is_took _ = false

abbrev pub is_took_drained : Shape → Bool
is_took_drained shapes.TookDrained = true
is_took_drained _ = false

abbrev pub is_discarded : Shape → Bool
is_discarded (shapes.Discarded recalled) = true
is_discarded _ = false

abbrev pub is_noted : Shape → Bool
is_noted (shapes.Noted recalled) = true
is_noted _ = false

abbrev pub is_passed : Shape → Bool
is_passed shapes.Passed = true
is_passed _ = false

abbrev pub is_nacked : Shape → Bool
is_nacked shapes.Nacked = true
is_nacked _ = false

abbrev pub is_unrouted : Shape → Bool
is_unrouted shapes.Unrouted = true
is_unrouted _ = false

abbrev pub is_failed : Shape → Bool
is_failed shapes.Failed = true
is_failed _ = false

abbrev pub is_retried : Shape → Bool
is_retried shapes.Retried = true
is_retried _ = false

abbrev pub is_late : Shape → Bool
is_late (shapes.Late whole) = true
is_late _ = false

abbrev pub is_offered : Shape → Bool
is_offered shapes.Offered = true
is_offered _ = false

abbrev pub is_settled : Shape → Bool
is_settled (shapes.Settled type) = true
is_settled _ = false

abbrev pub is_settled_nack : Shape → Bool
is_settled_nack shapes.SettledNack = true
is_settled_nack _ = false

abbrev pub is_lost_one : Shape → Bool
is_lost_one shapes.LostOne = true
is_lost_one _ = false

-- of each count, with the kinds that it counts
pub record Each (R : (Shape → Bool) → (KindCounts → ℕ) → Type 0) : Type 0 where
  pub took : R is_took (λ c. c.took)
  pub took_drained : R is_took_drained (λ c. c.took_drained)
  pub discarded : R is_discarded (λ c. c.discarded)
  pub noted : R is_noted (λ c. c.noted)
  pub passed : R is_passed (λ c. c.passed)
  pub nacked : R is_nacked (λ c. c.nacked)
  pub unrouted : R is_unrouted (λ c. c.unrouted)
  pub failed : R is_failed (λ c. c.failed)
  pub retried : R is_retried (λ c. c.retried)
  pub late : R is_late (λ c. c.late)
  pub offered : R is_offered (λ c. c.offered)
  pub settled : R is_settled (λ c. c.settled)
  pub settled_nack : R is_settled_nack (λ c. c.settled_nack)
  pub lost_one : R is_lost_one (λ c. c.lost_one)

-- how many records are of such a kind
abbrev pub count_kind : (Shape → Bool) → List Record → ℕ
count_kind p rs = count_by (λ r. p (shape_of r.kind)) rs

-- up to the greatest number
abbrev pub capped : ℕ → ℕ
capped n = min n (2 ^ 64 - 1)

-- these are the counts of the list
abbrev pub IsCount : KindCounts → List Record → Type 0
IsCount c rs = Each (λ p count. count c ≡ capped (count_kind p rs))

-- a record of this shape was counted too
abbrev pub CountsOne : Shape → (old new : KindCounts) → Type 0
CountsOne shape old new = Each (λ p count. count new ≡ max (count old) (capped (count old + cond (p shape) 1 0)))

abbrev pub IsSum : (a b c : KindCounts) → Type 0
IsSum a b c = Each (λ p count. count c ≡ capped (count a + count b))
