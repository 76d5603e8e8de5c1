use Rattle.tag_pool.proofs.PoolLemmas.{same_entries, held_in-none}
use Rattle.tag_pool.proofs.pool.TagPool.with_room.Goals as goal

pub returns-clause-ok : goal.returns-clause-ok
returns-clause-ok g c =
    same_entries c.args.room _ _
    (held_in-none c.in-Ok.slots.slots c.in-Ok.ensures.empty)
