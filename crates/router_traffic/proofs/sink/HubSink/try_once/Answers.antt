use Rattle.std.proofs.Common.{[]}
use Rattle.router_traffic.specs.HandingLaws.{hands_then}
use Rattle.router_traffic.proofs.sink.HubSink.try_once.Goals as goal

pub returns-in-All : goal.returns-in-All
returns-in-All g c = hands_then [] [] (rw c.count.ensures (rw c.judge.ensures at c.hand_in.ensures)) c.see_end.ensures

pub returns-in-Refused : goal.returns-in-Refused
returns-in-Refused g c = hands_then [] [] (rw c.count-in-Refused.ensures (rw c.judge.ensures at c.hand_in.ensures)) c.refused.ensures
