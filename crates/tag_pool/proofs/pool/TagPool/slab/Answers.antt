use Rattle.std.proofs.Common.{◌+◌, sym, arith}
use Rattle.tag_pool.proofs.PoolLemmas.{get-held_in, len-held_in}
use Rattle.tag_pool.proofs.pool.TagPool.slab.Goals as goal

pub returns-clause-held : goal.returns-clause-held
returns-clause-held g c =
    rw (← c.self.view_is) (λ key. sym (get-held_in c.self.inside.slots.slots (key + 2) key (omega arith)))

pub returns-clause-len : goal.returns-clause-len
returns-clause-len g c = rw (← c.self.view_is) (sym (len-held_in c.self.inside.slots.slots))
