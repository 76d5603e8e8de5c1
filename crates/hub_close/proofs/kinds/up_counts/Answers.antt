use Rattle.std.proofs.Common.{ap}
use Rattle.mux_agree.specs.Walk.{joined, kept_up}
use Rattle.hub_close.proofs.Counting.{kinds_kept}
use Rattle.hub_close.proofs.kinds.up_counts.Goals as goal

pub loop-up-preserved : goal.loop-up-preserved
loop-up-preserved c =
    kinds_kept kept_up _ _ _ _ _ _ _ _ c.loop-up-test.true c.loop-up.invariant c.up-item.is c.epoch_counts.ensures
    (ap joined c.as_slice.ensures.value) c.plus-counts.ensures
