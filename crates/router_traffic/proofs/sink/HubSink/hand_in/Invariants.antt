use Rattle.std.proofs.Common.{[]}
use Rattle.router_traffic.specs.Handing.{HandsIn}
use Rattle.router_traffic.specs.Inflows.{inflow}
use Rattle.router_traffic.proofs.sink.HubSink.hand_in.Given as goal

abbrev pub invariant-loop : goal.invariant-loop
invariant-loop g l = HandsIn g.H.Host.runs g.H.Host.is_same g.H.Host.goes_on (inflow l.fn.self.intake) [] (inflow l.self.intake)
