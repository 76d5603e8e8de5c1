use Rattle.std.proofs.Common.{Ok}
use Rattle.server_session.specs.declared.answers.Answer.TheVariants as whether
use Rattle.kept_session.proofs.ReachingDown.{settled, advanced, keeps_on, comes_back}
use Rattle.kept_session.proofs.server.KeptServerSession.pass_owed.Goals as goal

pub invariant_of-self : goal.invariant_of-self
invariant_of-self c =
    (c.self.invariant.0, c.self.invariant.1, keeps_on c.self.inside.ended.items c.self.inside.session _ _ (λ p q. settled p q c.args.settled (Ok whether.Answered) (comes_back c.args.settled.again c.again-dispatch.ensures.dispatch)) c.pass_owed.ensures c.self.invariant.2)

pub returns : goal.returns
returns c = rw (← c.self.view_is) (advanced c.self.inside.ended.items c.self.inside.session _ _ (λ p q. settled p q c.args.settled (Ok whether.Answered) (comes_back c.args.settled.again c.again-dispatch.ensures.dispatch)) c.pass_owed.ensures)
