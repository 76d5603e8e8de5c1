use Rattle.std.proofs.Common.{sym, refl, subst}
use Rattle.server_session.specs.State.{State}
use Rattle.server_session.specs.Belonging.{Belongs}
use Rattle.server_session.proofs.Queue.{last_step}
use Rattle.server_session.proofs.session.ServerSession.last_out.Goals as goal

pub returns : goal.returns
returns c = λ p b.
    let inside = subst (λ (s : State). Belongs s p) (sym c.self.view_is) b in
    last_step _ p c.self.inside.queue.items c.back.result inside refl
    (rw c.self.inside.queue.ok.0 at c.back.ensures.variant)
    (rw c.self.inside.queue.ok.0 at c.back.ensures.lookup)
