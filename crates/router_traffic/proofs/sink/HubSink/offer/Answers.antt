use Rattle.std.proofs.Common.{[]}
use Rattle.router_traffic.specs.HandingLaws.{hands_then}
use Rattle.router_traffic.proofs.sink.HubSink.offer.Goals as goal

pub returns-in-Err-clause-frames : goal.returns-in-Err-clause-frames
returns-in-Err-clause-frames g c =
    rw (← c.in-Err.ensures.back) (hands_then [] _ c.in-Err.ensures.frames c.poll_late-in-Err.ensures.frames)
