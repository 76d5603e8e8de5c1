use Rattle.kept_session.proofs.ReachingDown.{nacked, advanced, keeps_on}
use Rattle.kept_session.proofs.server.KeptServerSession.nack.Goals as goal

pub invariant_of-self : goal.invariant_of-self
invariant_of-self c =
    (c.self.invariant.0, c.self.invariant.1, keeps_on c.self.inside.ended.items c.self.inside.session _ _ (λ p q. nacked p q c.args.ticket c.nack.result) c.nack.ensures.step c.self.invariant.2)

pub returns-clause-step : goal.returns-clause-step
returns-clause-step c = rw (← c.self.view_is) (advanced c.self.inside.ended.items c.self.inside.session _ _ (λ p q. nacked p q c.args.ticket c.nack.result) c.nack.ensures.step)
