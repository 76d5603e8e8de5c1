use Rattle.std.proofs.Common.{None, refl, rules}
use Rattle.hub_steps.specs.Batches as batches
use Rattle.hub_steps.proofs.Batching.{serves_on}
use Rattle.hub_steps.proofs.up_batch.refuse_all.Goals as goal

pub loop-at-init : goal.loop-at-init
loop-at-init c = (batches.ServesUp.none, (refl, refl))

pub loop-at-preserved : goal.loop-at-preserved
loop-at-preserved c = (
  serves_on c.args.now c.args.server None None c.args.errands.now.items c.loop-at.errands.items None c.refuse_one.new.errands.items
      c.loop-at.invariant.0 c.refuse_one.ensures.event,
  search rules,
)
