use Rattle.std.proofs.Common.{rules}
use Rattle.tag_pool.proofs.PoolLemmas.{len-held_in}
use Rattle.tag_pool.proofs.pool.TagPool.is_empty.Goals as goal

pub returns : goal.returns
returns g c = rw (← c.self.view_is, len-held_in c.self.inside.slots.slots, c.is_empty.ensures) (search rules)
