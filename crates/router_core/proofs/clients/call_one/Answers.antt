use Rattle.std.proofs.Common.{sym, subst}
use Rattle.core_world.specs.Calls.{client_call}
use Rattle.router_core.specs.Sides.{DownAt, Does}
use Rattle.router_core.proofs.clients.call_one.Goals as goal

pub returns-in-Step-clause-step : goal.returns-in-Step-clause-step
returns-in-Step-clause-step c = subst (λ x. Does DownAt c.args.session.now c.step_one.new.session (client_call x) c.step_one.result) (sym c.in-Step.is) c.step_one.ensures.step

pub returns-in-Note-clause-step : goal.returns-in-Note-clause-step
returns-in-Note-clause-step c = subst (λ x. Does DownAt c.args.session.now c.note.new.session (client_call x) c.note.result) (sym c.in-Note.is) c.note.ensures.step

pub returns-in-Settle-clause-step : goal.returns-in-Settle-clause-step
returns-in-Settle-clause-step c = subst (λ x. Does DownAt c.args.session.now c.settle.new.session (client_call x) c.settle.result) (sym c.in-Settle.is) c.settle.ensures.step

pub returns-in-Nack-clause-step : goal.returns-in-Nack-clause-step
returns-in-Nack-clause-step c = subst (λ x. Does DownAt c.args.session.now c.nack.new.session (client_call x) c.nack.result) (sym c.in-Nack.is) c.nack.ensures.step

pub returns-in-Unroute-clause-step : goal.returns-in-Unroute-clause-step
returns-in-Unroute-clause-step c = subst (λ x. Does DownAt c.args.session.now c.unroute.new.session (client_call x) c.unroute.result) (sym c.in-Unroute.is) c.unroute.ensures.step

pub returns-in-Fail-clause-step : goal.returns-in-Fail-clause-step
returns-in-Fail-clause-step c = subst (λ x. Does DownAt c.args.session.now c.fail.new.session (client_call x) c.fail.result) (sym c.in-Fail.is) c.fail.ensures.step
