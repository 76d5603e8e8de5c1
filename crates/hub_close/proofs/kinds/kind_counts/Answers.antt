use Rattle.hub_close.proofs.Counting.{kinds_all}
use Rattle.hub_close.proofs.kinds.kind_counts.Goals as goal

pub returns : goal.returns
returns c =
    kinds_all _ _ _ c.args.downs.now c.args.ups.now c.down_counts.ensures c.up_counts.ensures c.plus.ensures
