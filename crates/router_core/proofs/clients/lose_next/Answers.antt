use Rattle.router_core.proofs.LeadingDown.{lost_one, lost_none}
use Rattle.router_core.proofs.clients.lose_next.Goals as goal

pub returns-in-Some : goal.returns-in-Some
returns-in-Some c = lost_one _ _ _ c.in-Some.recall c.in-Some.is c.lose_next.ensures.step _ c.giving.ensures

pub returns-in-None : goal.returns-in-None
returns-in-None c = lost_none _ _ _ c.in-None.is c.lose_next.ensures.step _ c.telling.ensures
