use Rattle.router_core.proofs.LeadingDown.{lose_ok}
use Rattle.router_core.proofs.clients.lose.Goals as goal

pub returns-clause-step : goal.returns-clause-step
returns-clause-step c = lose_ok _ _ c.args.now c.lose.ensures.step _ c.nothing.ensures
