use Rattle.std.proofs.Common.{refl}
use Rattle.server_session.proofs.Awaiting.{passed_on}
use Rattle.server_session.proofs.session.ServerSession.pass_owed.Goals as goal

pub returns : goal.returns
returns c = λ p b.
    passed_on c.args.self.now p c.args.settled c.args.owed.tag _ b c.requires.last c.requires.due
    (rw (c.write.ensures, c.retag-reply.ensures, c.normal.ensures.frame, c.change_answered.ensures.new, c.into_parts-reply.ensures) refl)
