use Rattle.std.proofs.Common.{[]}
use Rattle.router_traffic.specs.HandingLaws.{hands_then, nothing}
use Rattle.router_traffic.proofs.sink.HubSink.see_places.Goals as goal
use Rattle.router_traffic.proofs.sink.HubSink.see_places.Goals.{then-rolls_now, else-rolls_now}

pub returns-in_default : goal.returns-in_default
returns-in_default g c = nothing _

pub returns : goal.returns
returns g c =
    hands_then [] []
    (elim c.if-rolls_now.branch [ then-rolls_now w ↦ rw w.self-is w.roll.ensures | else-rolls_now w ↦ rw w.self-is (nothing _) ])
    c.take_ended.ensures
