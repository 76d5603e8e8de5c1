use Rattle.hub_close.proofs.Counting.{kinds_epoch}
use Rattle.hub_close.proofs.kinds.epoch_counts.Goals as goal

pub loop-epoch-preserved : goal.loop-epoch-preserved
loop-epoch-preserved c =
    kinds_epoch _ _ _ _ _ _ _ c.loop-epoch-test.true c.loop-epoch.invariant c.epoch-item.is c.counts.ensures c.plus-counts.ensures
