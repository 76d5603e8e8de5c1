use Rattle.std.proofs.Common.{sym, subst}
use Rattle.core_world.specs.Calls.{client_call}
use Rattle.core_world.specs.declared.calls.ClientCall.TheVariants as calls
use Rattle.router_core.specs.Sides.{DownAt, Does}
use Rattle.router_core.proofs.clients.step_one.Goals as goal

pub returns-in-Frame-clause-step : goal.returns-in-Frame-clause-step
returns-in-Frame-clause-step c = subst (λ x. Does DownAt c.args.session.now c.frame.new.session (client_call (calls.Step x)) c.frame.result) (sym c.in-Frame.is) c.frame.ensures.step

pub returns-in-Drain-clause-step : goal.returns-in-Drain-clause-step
returns-in-Drain-clause-step c = subst (λ x. Does DownAt c.args.session.now c.drain.new.session (client_call (calls.Step x)) c.drain.result) (sym c.in-Drain.is) c.drain.ensures.step

pub returns-in-Seal-clause-step : goal.returns-in-Seal-clause-step
returns-in-Seal-clause-step c = subst (λ x. Does DownAt c.args.session.now c.seal.new.session (client_call (calls.Step x)) c.seal.result) (sym c.in-Seal.is) c.seal.ensures.step

pub returns-in-Roll-clause-step : goal.returns-in-Roll-clause-step
returns-in-Roll-clause-step c = subst (λ x. Does DownAt c.args.session.now c.roll.new.session (client_call (calls.Step x)) c.roll.result) (sym c.in-Roll.is) c.roll.ensures.step
