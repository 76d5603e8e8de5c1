use Rattle.std.proofs.Common.{◌≡◌, ◌+◌, ℕ, arith, ap, ◌∙◌}
use Rattle.std.specs.FinMap as map
use Rattle.tag_pool.proofs.PoolLemmas.{same_entries, get-held_in, len-held_in, held_in-filled}
use Rattle.tag_pool.specs.Pool.{held_in}
use Rattle.tag_pool.proofs.pool.TagPool.take.Goals as goal

pub returns-then-len-self-clause-succeeds : goal.returns-then-len-self-clause-succeeds
returns-then-len-self-clause-succeeds g c = rw (← c.self.view_is) (rw (len-held_in c.self.inside.slots.slots) (λ h. absurd (omega (arith, c.len.ensures))))

pub returns-then-len-self-clause-full : goal.returns-then-len-self-clause-full
returns-then-len-self-clause-full g c = rw (← c.self.view_is) (rw (len-held_in c.self.inside.slots.slots) (omega (arith, c.len.ensures, c.self.invariant.0)))

pub returns-clause-vacant : goal.returns-clause-vacant
returns-clause-vacant g c =
    rw (← c.self.view_is) (get-held_in c.self.inside.slots.slots _ c.insert_reserved-key.result (omega arith) ∙ c.insert_reserved-key.ensures.was_vacant)

pub returns-clause-taken : goal.returns-clause-taken
returns-clause-taken g c =
    let at : 2 + c.insert_reserved-key.result ≡ c.insert_reserved-key.result + 2 = omega arith in
    rw (← c.self.view_is)
    (same_entries c.self.inside.room _ _
    (held_in-filled c.self.inside.slots c.insert_reserved-key.new.self c.insert_reserved-key.result c.args.entry c.insert_reserved-key.ensures.updates
    ∙ ap (λ (t : ℕ). map.insert (held_in c.self.inside.slots.slots) t c.args.entry) at))
