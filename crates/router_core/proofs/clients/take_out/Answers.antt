use Rattle.router_core.proofs.LeadingDown.{gives_out}
use Rattle.core_world.proofs.Calling.{at_number, put_is}
use Rattle.router_core.proofs.clients.take_out.Goals as goal

pub returns : goal.returns
returns c = (
  c.in-Some.session.now,
  c.take_out.new.self,
  at_number c.args.clients.now.items c.args.number c.in-Some.session.now c.if-number-eq0.false c.in-Some.ensures.item.3.0 c.in-Some.ensures.value,
  put_is c.args.clients.now.items c.args.number c.take_out.new.self c.if-number-eq0.false,
  gives_out _ _ c.take_out.result c.take_out.ensures.step,
)
