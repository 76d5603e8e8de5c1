use Rattle.kept_session.proofs.Reaching.{lost_one, advanced, keeps_on}
use Rattle.kept_session.proofs.client.KeptClientSession.lose_next.Goals as goal

pub invariant_of-self : goal.invariant_of-self
invariant_of-self c =
    (c.self.invariant.0, c.self.invariant.1, keeps_on c.self.inside.mode c.self.inside.ended.items c.self.inside.session _ _ (λ p q. lost_one p q c.lose_next.result) c.lose_next.ensures.step c.self.invariant.2)

pub returns : goal.returns
returns c = rw (← c.self.view_is) (advanced c.self.inside.mode c.self.inside.ended.items c.self.inside.session _ _ (λ p q. lost_one p q c.lose_next.result) c.lose_next.ensures.step)
