use Rattle.std.proofs.Common.{◌∙◌}
use Rattle.kept_session.proofs.Outlining.{shown}
use Rattle.kept_session.proofs.client.KeptClientSession.standing.Goals as goal

pub returns : goal.returns
returns c = rw (← c.self.view_is) (λ p begun b. c.standing.ensures ∙ (shown _ _ p begun b).standing)
