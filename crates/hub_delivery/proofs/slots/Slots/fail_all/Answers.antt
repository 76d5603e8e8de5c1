use Rattle.std.proofs.Common.{arith, subst}
use Rattle.hub_delivery.specs.Losing.{GivesLost}
use Rattle.hub_delivery.specs.Losing as losing
use Rattle.hub_delivery.proofs.slots.Slots.fail_all.Goals as goal

pub loop-init : goal.loop-init
loop-init g c = (omega arith, losing.Fails.none)

pub loop-preserved : goal.loop-preserved
loop-preserved g c = (
  omega (arith, c.loop.invariant.0, c.lose_next-given.ensures.more, c.fail.ensures.more),
  losing.Fails.next c.in-Some-given.lost (subst (GivesLost c.args.server) c.in-Some-given.is c.lose_next-given.ensures.event)
      c.fail.ensures.taken c.loop.invariant.1,
)
