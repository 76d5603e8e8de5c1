use Rattle.std.proofs.Common.{ap}
use Rattle.mux_agree.specs.Walk.{joined, kept_down}
use Rattle.hub_close.proofs.Counting.{kinds_kept}
use Rattle.hub_close.proofs.kinds.down_counts.Goals as goal

pub loop-down-preserved : goal.loop-down-preserved
loop-down-preserved c =
    kinds_kept kept_down _ _ _ _ _ _ _ _ c.loop-down-test.true c.loop-down.invariant c.down-item.is c.epoch_counts.ensures
    (ap joined c.as_slice.ensures.value) c.plus-counts.ensures
