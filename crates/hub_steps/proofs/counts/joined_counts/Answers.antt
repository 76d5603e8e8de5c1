use Rattle.mux_agree.specs.Walk.{joined}
use Rattle.mux_history.proofs.Counting.{counts-append}
use Rattle.hub_steps.proofs.counts.joined_counts.Goals as goal

pub returns : goal.returns
returns c rs is = counts-append _ _ _ (joined c.args.epochs.now) rs c.epoch_counts.ensures is c.plus.ensures
