use Rattle.std.proofs.Common.{ap, arith, length, rules}
use Rattle.hub_steps.proofs.Batching.{takes_none_down, takes_more_down}
use Rattle.hub_steps.proofs.down_batch.start_all.Goals as goal

pub loop-init : goal.loop-init
loop-init g c = (takes_none_down c.args.now c.args.slot.now c.args.batch.now c.args.receipts.now, search rules)

pub loop-preserved : goal.loop-preserved
loop-preserved g c = (
  takes_more_down c.args.now c.args.slot.now c.loop.slot c.start_next.new.slot c.args.batch.now c.loop.batch
      c.start_next.new.batch c.args.receipts.now c.loop.receipts c.start_next.new.receipts c.loop.invariant.0 c.in_ok-start_next.ensures.next,
  omega (arith, c.loop.invariant.1, ap (λ xs. length xs) c.in_ok-start_next.ensures.next.3),
)
