use Rattle.std.proofs.Common.{◌≡◌, ◌<◌, ◌≤◌, ◌+◌, None, ℕ, arith, ◌∙◌, inl, inr, rules, tests, IsSome}
use Rattle.std.proofs.lemmas.Iterator.{first_from_Range}
use Rattle.slab.specs.Slab as slab
use Rattle.tag_pool.proofs.PoolLemmas.{get-held_in, get-held_in_low, place_of, vacant_up_to, len-none_held}
use Rattle.tag_pool.proofs.pool.TagPool.first.Goals as goal
use Rattle.tag_pool.proofs.pool.TagPool.first.Goals.{In_ok-key}
use Rattle.tag_pool.proofs.pool.TagPool.first.Given.{Over}

abbrev Found : (g : Over) (c : In_ok-key g) → Type 0
Found g c =
    (c.self.inside.low ≤ c.in_ok-key.key) × (c.in_ok-key.key < c.capacity.result)
    × IsSome (slab.get c.self.inside.slots c.in_ok-key.key)
    × ((k : ℕ) → c.self.inside.low ≤ k → k < c.in_ok-key.key → slab.get c.self.inside.slots k ≡ None)

found : (g : Over) (c : In_ok-key g) → Found g c
found g c =
    let hit = first_from_Range _ _ _ c.find.result (λ k. IsSome (slab.get c.self.inside.slots k)) (λ k. slab.get c.self.inside.slots k ≡ None) c.find.ensures.ran
    (λ x q k. search (rules, tests))
    (λ x q k. (search rules, search (rules, tests))) in
    rw c.in_ok-key.was at hit

pub returns-in_err-key-clause-none : goal.returns-in_err-key-clause-none
returns-in_err-key-clause-none g c =
    let miss = first_from_Range _ _ _ c.find.result (λ k. IsSome (slab.get c.self.inside.slots k)) (λ k. slab.get c.self.inside.slots k ≡ None) c.find.ensures.ran
    (λ x q k. search (rules, tests))
    (λ x q k. (search rules, search (rules, tests))) in
    let past = rw c.in_err-key.was at miss in
    rw (c.from_residual.ensures, ← c.self.view_is)
    (len-none_held c.self.inside.slots c.capacity.result c.capacity.ensures.slots
    (vacant_up_to c.self.inside.slots c.self.inside.low c.capacity.result c.self.invariant.3 past))

pub overflow_cast-result : goal.overflow_cast-result
overflow_cast-result g c = omega (arith, (found g c).1, c.capacity.ensures.value, c.self.invariant.2)

pub overflow_add-result : goal.overflow_add-result
overflow_add-result g c = omega (arith, (found g c).1, c.capacity.ensures.value, c.self.invariant.2)

pub returns-clause-held : goal.returns-clause-held
returns-clause-held g c =
    rw (← c.self.view_is) (rw (get-held_in c.self.inside.slots.slots (c.in_ok-key.key + 2) c.in_ok-key.key (omega arith)) (found g c).2)

pub returns-clause-least : goal.returns-clause-least
returns-clause-least g c = rw (← c.self.view_is) (λ q below. elim (place_of q) [
  | inl low ↦ get-held_in_low c.self.inside.slots.slots q low
  | inr (i, e) ↦
      get-held_in c.self.inside.slots.slots q i e
      ∙ vacant_up_to c.self.inside.slots c.self.inside.low c.in_ok-key.key c.self.invariant.3 (found g c).3 i (omega (arith, e))
])
