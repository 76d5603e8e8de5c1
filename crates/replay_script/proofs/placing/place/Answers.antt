use Rattle.std.proofs.Common.{rules}
use Rattle.balancer.proofs.Trying.{candidate_there}
use Rattle.replay_script.proofs.placing.place.Goals as goal

pub bounds-candidates-place : goal.bounds-candidates-place
bounds-candidates-place g c =
    candidate_there c.as_slice-candidates.result.now c.order.result c.as_slice-place-items.result.now c.loop-place.place-index c.order.ensures c.as_slice-place-items.ensures c.loop-place-test.true

pub offset_bounds-candidates-place : goal.offset_bounds-candidates-place
offset_bounds-candidates-place g c = let there = bounds-candidates-place g c in search rules
