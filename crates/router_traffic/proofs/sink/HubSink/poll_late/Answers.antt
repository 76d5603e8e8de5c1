use Rattle.std.proofs.Common.{[]}
use Rattle.router_traffic.specs.HandingLaws.{hands_then}
use Rattle.router_traffic.proofs.sink.HubSink.poll_late.Goals as goal

pub returns-then-self-clause-frames : goal.returns-then-self-clause-frames
returns-then-self-clause-frames g c =
    hands_then [] [] (hands_then [] [] c.begin.ensures c.hand_in.ensures) c.see_places.ensures

pub returns-then-self-2-clause-frames : goal.returns-then-self-2-clause-frames
returns-then-self-2-clause-frames g c =
    hands_then [] [] (hands_then [] [] c.begin.ensures c.hand_in.ensures) c.see_places.ensures

pub returns-in-Ok-clause-frames : goal.returns-in-Ok-clause-frames
returns-in-Ok-clause-frames g c =
    let on = hands_then [] [] (hands_then [] [] c.begin.ensures c.hand_in.ensures) c.see_places.ensures in
    hands_then [] _ on c.in-Ok.ensures.frames

pub returns-in-Err-clause-frames : goal.returns-in-Err-clause-frames
returns-in-Err-clause-frames g c =
    let on = hands_then [] [] (hands_then [] [] c.begin.ensures c.hand_in.ensures) c.see_places.ensures in
    hands_then [] [] on c.in-Err.ensures.frames
