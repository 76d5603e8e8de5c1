use Rattle.std.proofs.Common.{sym, ◌∙◌}
use Rattle.tag_pool.proofs.PoolLemmas.{len-held_in}
use Rattle.tag_pool.proofs.pool.TagPool.len.Goals as goal

pub returns-clause-value : goal.returns-clause-value
returns-clause-value g c = rw (← c.self.view_is) (c.len.ensures ∙ sym (len-held_in c.self.inside.slots.slots))

pub returns-clause-within : goal.returns-clause-within
returns-clause-within g c = rw (← c.self.view_is) (rw (len-held_in c.self.inside.slots.slots) c.self.invariant.0)
