use Rattle.std.proofs.Common.{[]}
use Rattle.router_traffic.specs.HandingLaws.{hands_then}
use Rattle.router_traffic.proofs.sink.HubSink.put.Goals as goal

pub returns-clause-frames : goal.returns-clause-frames
returns-clause-frames g c = hands_then [] _ c.ready.ensures c.put.ensures.frames
