use Rattle.kept_session.proofs.Reaching.{took_all, advanced, keeps_on}
use Rattle.kept_session.proofs.client.KeptClientSession.take_outs.Goals as goal

pub invariant_of-self : goal.invariant_of-self
invariant_of-self c =
    (c.self.invariant.0, c.self.invariant.1, keeps_on c.self.inside.mode c.self.inside.ended.items c.self.inside.session _ _ (λ p q. took_all p q c.take_outs.new.frames.items) c.take_outs.ensures.step c.self.invariant.2)

pub returns-clause-step : goal.returns-clause-step
returns-clause-step c = rw (← c.self.view_is) (advanced c.self.inside.mode c.self.inside.ended.items c.self.inside.session _ _ (λ p q. took_all p q c.take_outs.new.frames.items) c.take_outs.ensures.step)
