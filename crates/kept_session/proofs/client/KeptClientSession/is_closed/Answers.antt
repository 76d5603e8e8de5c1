use Rattle.std.proofs.Common.{◌∙◌}
use Rattle.kept_session.proofs.client.KeptClientSession.is_closed.Goals as goal

pub returns : goal.returns
returns c = rw (← c.self.view_is) (λ p b. c.is_closed.ensures ∙ b.closed)
