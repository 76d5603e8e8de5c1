use Rattle.std.proofs.Common.{sym, subst}
use Rattle.core_world.specs.Calls.{server_call}
use Rattle.router_core.specs.Sides.{UpAt, Does}
use Rattle.router_core.proofs.servers.call_one.Goals as goal

pub returns-in-Step-clause-step : goal.returns-in-Step-clause-step
returns-in-Step-clause-step c = subst (λ x. Does UpAt c.args.session.now c.step_one.new.session (server_call x) c.step_one.result) (sym c.in-Step.is) c.step_one.ensures.step

pub returns-in-Offer-clause-step : goal.returns-in-Offer-clause-step
returns-in-Offer-clause-step c = subst (λ x. Does UpAt c.args.session.now c.offer.new.session (server_call x) c.offer.result) (sym c.in-Offer.is) c.offer.ensures.step
