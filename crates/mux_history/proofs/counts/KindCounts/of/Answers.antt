use Rattle.std.proofs.Common.{◌<◌, ◌-◌, ◌^◌, arith, rules, take}
use Rattle.std.proofs.lemmas.List.{length-take}
use Rattle.mux_history.proofs.Counting.{counts_more, has_room}
use Rattle.mux_history.proofs.counts.KindCounts.of.Goals as goal

pub loop-met-preserved : goal.loop-met-preserved
loop-met-preserved c = counts_more _ _ _ _ _ _ _ c.loop-met-test.true c.loop-met.invariant c.add.ensures c.shape.ensures c.met-item.is

pub add-requires : goal.add-requires
add-requires c =
    let fewer : c.loop-met.met-index < 2 ^ 64 - 1 = search rules in
    let long = length-take c.loop-met.met-index c.args.records.now in
    has_room c.loop-met.counts (take c.loop-met.met-index c.args.records.now) c.loop-met.invariant (omega (arith, fewer, long))
