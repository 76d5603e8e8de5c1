use Rattle.std.proofs.Common.{◌≡◌, [], sym, refl, ◌∙◌, ap, subst}
use Rattle.client_session.specs.Inside.{frames_of}
use Rattle.client_session.specs.State.{State}
use Rattle.client_session.specs.Belonging.{Belongs}
use Rattle.client_session.proofs.Stepping.{taken_all, no_length}
use Rattle.client_session.proofs.session.ClientSession.take_outs.Goals as goal

pub returns-then-not-self-clause-step : goal.returns-then-not-self-clause-step
returns-then-not-self-clause-step c = λ p b.
    let inside = subst (λ (s : State). Belongs s p) (sym c.self.view_is) b in
    let empty : c.args.frames.now.items ≡ [] = no_length c.args.frames.now.items (sym c.args.frames.now.ok.0 ∙ c.requires.empty) in
    let left : frames_of c.swap.new.x.items ≡ [] = ap (λ q. frames_of q.items) c.swap.ensures.x_after ∙ ap frames_of empty in
    let all = taken_all _ p c.self.inside.queue.items inside c.if-not-self.true refl in
    rw (c.swap.ensures.y_after, left) all
