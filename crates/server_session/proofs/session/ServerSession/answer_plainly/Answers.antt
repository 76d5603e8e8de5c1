use Rattle.server_session.proofs.Quiet.{plain_step}
use Rattle.server_session.proofs.session.ServerSession.answer_plainly.Goals as goal

pub returns : goal.returns
returns c = record {
  step = λ p b.
      let m = c.args.message in
      plain_step c.args.self.now p c.args.now m.frame m.content c.react.result _ b c.requires.open c.requires.read c.requires.spelled c.requires.plain
      c.requires.room c.requires.cause c.react.ensures.0 c.react.ensures.1;
}
