use Rattle.std.proofs.Common.{◌≡◌, [], List, sym, ap, subst, ◌∙◌}
use Rattle.mux_frame.specs.Spelling.{MuxFrame}
use Rattle.server_session.specs.State.{State}
use Rattle.server_session.specs.Belonging.{Belongs}
use Rattle.server_session.specs.Inside.{frames_of, state_of}
use Rattle.server_session.specs.Past.{Past}
use Rattle.server_session.specs.Steps.{TakeOutsStep}
use Rattle.server_session.proofs.Queue.{outs_step, no_outs_step, no_length}
use Rattle.server_session.proofs.session.ServerSession.take_outs.Goals as goal

pub returns-then-not-self-clause-step : goal.returns-then-not-self-clause-step
returns-then-not-self-clause-step c = λ p b.
    let inside = subst (λ (s : State). Belongs s p) (sym c.self.view_is) b in
    let none = no_length c.args.into.now.items (sym c.args.into.now.ok.0 ∙ c.requires.empty) in
    let left : frames_of c.swap.new.x.items ≡ frames_of c.args.into.now.items = λ i. frames_of (c.swap.ensures.x_after i).items in
    let taken : frames_of c.swap.new.y.items ≡ frames_of c.self.inside.queue.items = λ i. frames_of (c.swap.ensures.y_after i).items in
    let moved = outs_step _ p inside c.if-not-self.true in
    subst (λ (fs : List MuxFrame). (q : Past) × TakeOutsStep p (frames_of c.swap.new.y.items) q × Belongs (record (state_of c.self.inside) { queue = fs }) q)
    (sym (left ∙ ap frames_of none))
    (subst (λ (fs : List MuxFrame). (q : Past) × TakeOutsStep p fs q × Belongs (record (state_of c.self.inside) { queue = [] }) q)
    (sym taken) moved)

pub returns-else-not-self-clause-step : goal.returns-else-not-self-clause-step
returns-else-not-self-clause-step c = λ p b.
    let none = no_length c.args.into.now.items (sym c.args.into.now.ok.0 ∙ c.requires.empty) in
    subst (λ (fs : List MuxFrame). (q : Past) × TakeOutsStep p fs q × Belongs c.args.self.now q) (sym (ap frames_of none))
    (no_outs_step c.args.self.now p b (ap (λ (s : State). s.closed) (sym c.self.view_is) ∙ c.if-not-self.false))
