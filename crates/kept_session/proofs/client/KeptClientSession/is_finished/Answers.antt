use Rattle.std.proofs.Common.{◌∙◌, ap, sym}
use Rattle.client_session.specs.Decide.{is_idle}
use Rattle.client_session.proofs.Deciding.{figures_same}
use Rattle.kept_session.proofs.client.KeptClientSession.is_finished.Goals as goal

pub returns : goal.returns
returns c =
    let k = c.self.invariant.2 in
    rw (← c.self.view_is) (c.is_finished.ensures k.0 k.2 ∙ ap is_idle (sym (figures_same _ k.0 k.2)))
