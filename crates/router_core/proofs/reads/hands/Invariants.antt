use Rattle.router_core.proofs.Bagging.{ShownUpTo}
use Rattle.router_core.proofs.reads.hands.Given as goal

abbrev pub invariant-loop-item : goal.invariant-loop-item
invariant-loop-item l = ShownUpTo l.fn.hands l.item-index l.all.items
