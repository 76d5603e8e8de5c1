use Rattle.std.proofs.Common.{◌∙◌}
use Rattle.client_session.proofs.Sending.{sent_on}
use Rattle.client_session.proofs.Stepping.{kind_spelled}
use Rattle.client_session.proofs.session.ClientSession.send.Goals as goal

pub returns : goal.returns
returns c = λ p b.
    let t = c.args.ticket in
    sent_on c.args.self.now p t c.args.now c.in-Ok.sent c.in-Ok.frame.frame c.accept.result _ b
    c.requires.room (kind_spelled t.frame t.content c.into_sent.ensures.spelled ∙ c.into_sent.ensures.dispatch)
    c.in-Ok.ensures.mark c.in-Ok.ensures.frame c.accept.ensures.placed c.accept.ensures.tag c.accept.ensures.new
