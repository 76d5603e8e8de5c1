use Rattle.std.proofs.Common.{ap, ◌∙◌}
use Rattle.client_session.specs.Decide.{is_idle}
use Rattle.client_session.proofs.Deciding.{figures_same}
use Rattle.client_session.proofs.session.ClientSession.is_finished.Goals as goal

pub returns : goal.returns
returns c = λ p b. c.is_idle.ensures ∙ ap is_idle (figures_same c.args.self.now p b)
