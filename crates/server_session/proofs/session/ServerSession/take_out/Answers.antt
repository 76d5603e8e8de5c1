use Rattle.std.proofs.Common.{ap, sym, refl, ◌∙◌, subst}
use Rattle.server_session.specs.State.{State}
use Rattle.server_session.specs.Belonging.{Belongs}
use Rattle.server_session.proofs.Queue.{taken_step, none_step}
use Rattle.server_session.proofs.session.ServerSession.take_out.Goals as goal

pub returns : goal.returns
returns c = record {
  step = λ p b.
      let inside = subst (λ (s : State). Belongs s p) (sym c.self.view_is) b in
      taken_step _ p c.pop_front.result c.self.inside.queue.items c.pop_front.new.self.items inside c.if-self.false refl c.pop_front.ensures.items
      (λ e. sym c.self.inside.queue.ok.0 ∙ (rw e at c.pop_front.ensures.cases).0);
}

pub returns-then-self : goal.returns-then-self
returns-then-self c = record {
  step = λ p b.
      let ended = ap (λ (s : State). s.closed) (sym c.self.view_is) ∙ c.if-self.true in
      let n = none_step c.args.self.now p b ended in
      (p, n.0, n.1);
}
