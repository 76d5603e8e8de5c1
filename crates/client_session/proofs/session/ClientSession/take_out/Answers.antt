use Rattle.std.proofs.Common.{sym, refl, ◌∙◌, subst}
use Rattle.client_session.specs.State.{State}
use Rattle.client_session.specs.Belonging.{Belongs}
use Rattle.client_session.proofs.Stepping.{taken_step}
use Rattle.client_session.proofs.session.ClientSession.take_out.Goals as goal

pub returns : goal.returns
returns c = record {
  step = λ p b.
      let inside = subst (λ (s : State). Belongs s p) (sym c.self.view_is) b in
      taken_step _ p c.pop_front.result c.self.inside.queue.items c.pop_front.new.self.items inside c.if-self.false refl c.pop_front.ensures.items
      (λ e. sym c.self.inside.queue.ok.0 ∙ (rw e at c.pop_front.ensures.cases).0);
}
