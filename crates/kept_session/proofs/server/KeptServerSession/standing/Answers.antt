use Rattle.std.proofs.Common.{◌∙◌}
use Rattle.kept_session.proofs.OutliningDown.{stood}
use Rattle.kept_session.proofs.server.KeptServerSession.standing.Goals as goal

pub returns : goal.returns
returns c = rw (← c.self.view_is) (λ p b. c.standing.ensures ∙ stood _ p b)
