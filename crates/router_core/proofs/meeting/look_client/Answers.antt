use Rattle.std.proofs.Common.{sym, ltb-true}
use Rattle.core_world.proofs.Calling.{at_number}
use Rattle.router_core.proofs.meeting.look_client.Goals as goal

pub returns : goal.returns
returns c = (
  c.in-Some.session.now,
  at_number c.args.clients.now c.args.number c.in-Some.session.now c.if-number-eq0.false (ltb-true _ _ (sym c.in-Some.ensures.lookup.0)) c.in-Some.ensures.lookup.1,
  λ limits d b. c.look_down.ensures limits c.args.number d b,
)
