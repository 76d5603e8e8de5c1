use Rattle.std.proofs.Common.{ap, ◌∙◌}
use Rattle.tag_pool.specs.Pool.{Pool}
use Rattle.tag_pool.proofs.PoolLemmas.{vacant_behind}
use Rattle.tag_pool.proofs.pool.TagPool.pop_first.Goals as goal

pub invariant_of-self : goal.invariant_of-self
invariant_of-self g c = (
  c.self.invariant.0,
  c.self.invariant.1,
  c.self.invariant.2,
  vacant_behind c.self.inside.slots.slots c.args.self.now.entries c.in_ok-tag.tag
      (ap (λ (p : Pool g.row.E.Denot). p.entries) (c.self.view_is ∙ c.in-Some.ensures.given))
      c.in_ok-tag.ensures.tag.0 c.in_ok-tag.ensures.least,
)
