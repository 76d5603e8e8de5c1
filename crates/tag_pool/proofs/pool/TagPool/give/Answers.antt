use Rattle.std.proofs.Common.{◌≡◌, ◌+◌, ℕ, ◌-◌, arith, ap, sym, ◌∙◌}
use Rattle.std.specs.FinMap as map
use Rattle.tag_pool.proofs.PoolLemmas.{same_entries, get-held_in, get-held_in_low, held_in-emptied, remove-absent}
use Rattle.tag_pool.specs.Pool.{held_in}
use Rattle.tag_pool.proofs.pool.TagPool.give.Goals as goal

pub returns-then-tag-lt-FIRST_TAG-clause-value : goal.returns-then-tag-lt-FIRST_TAG-clause-value
returns-then-tag-lt-FIRST_TAG-clause-value g c = rw (← c.self.view_is) (sym (get-held_in_low c.self.inside.slots.slots c.args.tag c.if-tag-lt-FIRST_TAG.true))

pub returns-then-tag-lt-FIRST_TAG-clause-given : goal.returns-then-tag-lt-FIRST_TAG-clause-given
returns-then-tag-lt-FIRST_TAG-clause-given g c =
    rw (← c.self.view_is)
    (same_entries c.self.inside.room _ _
    (sym (remove-absent (held_in c.self.inside.slots.slots) c.args.tag (get-held_in_low c.self.inside.slots.slots c.args.tag c.if-tag-lt-FIRST_TAG.true))))

pub returns-clause-value : goal.returns-clause-value
returns-clause-value g c =
    rw (← c.self.view_is) (c.try_remove.ensures.value ∙ sym (get-held_in c.self.inside.slots.slots c.args.tag (c.args.tag - 2) (omega arith)))

pub returns-clause-given : goal.returns-clause-given
returns-clause-given g c =
    let at : 2 + (c.args.tag - 2) ≡ c.args.tag = omega arith in
    rw (← c.self.view_is)
    (same_entries c.self.inside.room _ _
    (held_in-emptied c.self.inside.slots c.try_remove.new.self (c.args.tag - 2) c.try_remove.ensures.updates
    ∙ ap (λ (t : ℕ). map.remove (held_in c.self.inside.slots.slots) t) at))
