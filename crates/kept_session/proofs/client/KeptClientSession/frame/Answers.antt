use Rattle.kept_session.proofs.Reaching.{framed, advanced, keeps_on}
use Rattle.kept_session.proofs.Recording.{frame_grown, frame_last}
use Rattle.kept_session.proofs.client.KeptClientSession.frame.Goals as goal

pub invariant_of-self : goal.invariant_of-self
invariant_of-self c =
    (c.self.invariant.0, c.self.invariant.1, keeps_on c.self.inside.mode c.self.inside.ended.items c.self.inside.session _ _ (λ p q. framed p q c.args.frame c.args.now c.frame.result) c.frame.ensures.step c.self.invariant.2)

pub returns-clause-step : goal.returns-clause-step
returns-clause-step c = rw (← c.self.view_is) (advanced c.self.inside.mode c.self.inside.ended.items c.self.inside.session _ _ (λ p q. framed p q c.args.frame c.args.now c.frame.result) c.frame.ensures.step)

pub returns-clause-grown : goal.returns-clause-grown
returns-clause-grown c =
    rw (← c.self.view_is) (frame_grown _ _ c.args.frame c.args.now c.self.invariant.2 c.frame.result (advanced c.self.inside.mode c.self.inside.ended.items c.self.inside.session _ _ (λ p q. framed p q c.args.frame c.args.now c.frame.result) c.frame.ensures.step))

pub returns-clause-record : goal.returns-clause-record
returns-clause-record c =
    rw (← c.self.view_is) (frame_last _ _ c.args.frame c.args.now c.self.invariant.2 c.frame.result (advanced c.self.inside.mode c.self.inside.ended.items c.self.inside.session _ _ (λ p q. framed p q c.args.frame c.args.now c.frame.result) c.frame.ensures.step))
