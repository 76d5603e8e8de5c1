use Rattle.std.proofs.Common.{ap, ◌∙◌, sym, length}
use Rattle.server_session.specs.State.{State}
use Rattle.server_session.proofs.Queue.{queued_same}
use Rattle.server_session.proofs.Soundness.{queued_in}
use Rattle.server_session.proofs.session.ServerSession.queued.Goals as goal

pub returns : goal.returns
returns c =
    let long = c.len.ensures ∙ sym (queued_in c.self.inside) ∙ ap (λ (s : State). length s.queue) c.self.view_is in
    record { value = long; told = λ p b. long ∙ queued_same c.args.self.now p b }
