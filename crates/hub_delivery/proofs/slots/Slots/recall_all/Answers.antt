use Rattle.std.proofs.Common.{arith, subst}
use Rattle.hub_delivery.specs.Losing.{GivesRecall}
use Rattle.hub_delivery.specs.Losing as losing
use Rattle.hub_delivery.proofs.slots.Slots.recall_all.Goals as goal

pub loop-init : goal.loop-init
loop-init g c = (omega arith, losing.Recalls.none)

pub loop-preserved : goal.loop-preserved
loop-preserved g c = (
  omega (arith, c.loop.invariant.0, c.lose_next-given.ensures.more, c.recall.ensures.more),
  losing.Recalls.next c.in-Some-given.recall (subst (GivesRecall c.args.client) c.in-Some-given.is c.lose_next-given.ensures.event)
      c.recall.ensures.taken c.loop.invariant.1,
)
