use Rattle.std.proofs.Common.{Ok, ◌∙◌}
use Rattle.client_session.proofs.Stepping.{kind_spelled}
use Rattle.kept_session.proofs.Reaching.{offered, advanced, keeps_on}
use Rattle.kept_session.proofs.client.KeptClientSession.send.Goals as goal

pub invariant_of-self : goal.invariant_of-self
invariant_of-self c =
    (c.self.invariant.0, c.self.invariant.1, keeps_on c.self.inside.mode c.self.inside.ended.items c.self.inside.session _ _ (λ p q. offered p q c.args.ticket c.args.now (Ok c.send.result) (kind_spelled c.args.ticket.frame c.args.ticket.content c.frame-dispatch.ensures.spelled ∙ c.frame-dispatch.ensures.dispatch)) c.send.ensures c.self.invariant.2)

pub returns : goal.returns
returns c = rw (← c.self.view_is) (advanced c.self.inside.mode c.self.inside.ended.items c.self.inside.session _ _ (λ p q. offered p q c.args.ticket c.args.now (Ok c.send.result) (kind_spelled c.args.ticket.frame c.args.ticket.content c.frame-dispatch.ensures.spelled ∙ c.frame-dispatch.ensures.dispatch)) c.send.ensures)
