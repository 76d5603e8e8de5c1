use Rattle.std.proofs.Common.{ap, ◌∙◌}
use Rattle.std.specs.FinMap as map
use Rattle.client_session.specs.State.{State}
use Rattle.client_session.proofs.Deciding.{load_same}
use Rattle.client_session.proofs.session.ClientSession.load.Goals as goal

pub returns : goal.returns
returns c =
    let held = c.len.ensures.value ∙ ap (λ (s : State). map.len s.entries) c.self.view_is in
    record { value = held; told = λ p b. held ∙ load_same c.args.self.now p b }
