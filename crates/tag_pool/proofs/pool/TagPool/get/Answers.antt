use Rattle.std.proofs.Common.{◌-◌, arith, sym, ◌∙◌}
use Rattle.tag_pool.proofs.PoolLemmas.{get-held_in, get-held_in_low}
use Rattle.tag_pool.proofs.pool.TagPool.get.Goals as goal

pub returns-then-tag-lt-FIRST_TAG : goal.returns-then-tag-lt-FIRST_TAG
returns-then-tag-lt-FIRST_TAG g c = rw (← c.self.view_is) (sym (get-held_in_low c.self.inside.slots.slots c.args.tag c.if-tag-lt-FIRST_TAG.true))

pub returns : goal.returns
returns g c =
    rw (← c.self.view_is) (c.get.ensures ∙ sym (get-held_in c.self.inside.slots.slots c.args.tag (c.args.tag - 2) (omega arith)))
