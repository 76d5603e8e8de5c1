use Rattle.router_core.proofs.LeadingDown.{frame_ok, frame_err}
use Rattle.router_core.proofs.clients.frame.Goals as goal

pub returns-in-Ok-clause-step : goal.returns-in-Ok-clause-step
returns-in-Ok-clause-step c = frame_ok _ _ c.args.frame c.args.now _ c.in-Ok.step c.in-Ok.is c.frame.ensures.step _ c.gave.ensures

pub returns-in-Err-clause-step : goal.returns-in-Err-clause-step
returns-in-Err-clause-step c = frame_err _ _ c.args.frame c.args.now _ c.in-Err.why c.in-Err.frame c.in-Err.is c.frame.ensures.step _ c.of_step.ensures
