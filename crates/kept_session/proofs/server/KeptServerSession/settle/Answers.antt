use Rattle.kept_session.proofs.ReachingDown.{settled, advanced, keeps_on, comes_back}
use Rattle.kept_session.proofs.server.KeptServerSession.settle.Goals as goal

pub invariant_of-self : goal.invariant_of-self
invariant_of-self c =
    (c.self.invariant.0, c.self.invariant.1, keeps_on c.self.inside.ended.items c.self.inside.session _ _ (λ p q. settled p q c.args.settled c.settle.result (comes_back c.args.settled.again c.again-dispatch.ensures.dispatch)) c.settle.ensures.step c.self.invariant.2)

pub returns-clause-step : goal.returns-clause-step
returns-clause-step c = rw (← c.self.view_is) (advanced c.self.inside.ended.items c.self.inside.session _ _ (λ p q. settled p q c.args.settled c.settle.result (comes_back c.args.settled.again c.again-dispatch.ensures.dispatch)) c.settle.ensures.step)
