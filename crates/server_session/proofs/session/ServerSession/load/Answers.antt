use Rattle.std.proofs.Common.{ap, ◌∙◌, length}
use Rattle.server_session.specs.State.{State}
use Rattle.server_session.proofs.Figures.{load_same}
use Rattle.server_session.proofs.session.ServerSession.load.Goals as goal

pub returns : goal.returns
returns c =
    let held = c.len.ensures.value ∙ ap (λ (s : State). length s.book) c.self.view_is in
    record { value = held; told = λ p b. held ∙ load_same c.args.self.now p b }
