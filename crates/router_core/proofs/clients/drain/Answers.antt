use Rattle.router_core.proofs.LeadingDown.{drain_ok, drain_err}
use Rattle.router_core.proofs.clients.drain.Goals as goal

pub returns-in-Ok-clause-step : goal.returns-in-Ok-clause-step
returns-in-Ok-clause-step c = drain_ok _ _ _ _ c.in-Ok.is c.drain.ensures.step _ c.nothing.ensures

pub returns-in-Err-clause-step : goal.returns-in-Err-clause-step
returns-in-Err-clause-step c = drain_err _ _ _ c.in-Err.why c.in-Err.is c.drain.ensures.step _ c.of_drain.ensures
