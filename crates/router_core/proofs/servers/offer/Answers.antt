use Rattle.router_core.proofs.Leading.{offer_ok, offer_err}
use Rattle.router_core.proofs.servers.offer.Goals as goal

pub returns-in-Ok-clause-step : goal.returns-in-Ok-clause-step
returns-in-Ok-clause-step c = offer_ok _ _ c.args.ticket c.args.now _ c.in-Ok.placed c.in-Ok.is c.offer.ensures.step _ c.giving.ensures

pub returns-in-Err-clause-step : goal.returns-in-Err-clause-step
returns-in-Err-clause-step c = offer_err _ _ c.args.ticket c.args.now _ c.in-Err.why c.in-Err.ticket c.in-Err.is c.offer.ensures.step _ c.of_offer.ensures
