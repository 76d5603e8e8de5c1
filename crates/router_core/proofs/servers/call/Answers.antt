use Rattle.core_world.specs.Calls.{server_call}
use Rattle.core_world.proofs.Calling.{at_number, put_is}
use Rattle.router_core.specs.Sides.{UpAt}
use Rattle.router_core.proofs.Ones.{does_one}
use Rattle.router_core.proofs.servers.call.Goals as goal

pub returns-clause-step : goal.returns-clause-step
returns-clause-step c =
    does_one UpAt c.args.servers.now.items _ c.args.number c.in-Some.session.now c.call_one.new.session (server_call c.args.call) c.call_one.result
    (at_number c.args.servers.now.items c.args.number c.in-Some.session.now c.if-number-eq0.false c.in-Some.ensures.item.3.0 c.in-Some.ensures.value)
    (put_is c.args.servers.now.items c.args.number c.call_one.new.session c.if-number-eq0.false) c.call_one.ensures.step
