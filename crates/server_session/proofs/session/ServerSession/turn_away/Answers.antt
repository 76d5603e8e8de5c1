use Rattle.std.proofs.Common.{refl}
use Rattle.server_session.proofs.Taking.{nacked_step}
use Rattle.server_session.proofs.session.ServerSession.turn_away.Goals as goal

pub returns : goal.returns
returns c = record {
  step = λ p b.
      let s = c.args.self.now in
      let m = c.args.message in
      nacked_step s p c.args.now m.frame m.content b c.requires.open c.requires.read c.requires.spelled c.requires.kind c.requires.room c.requires.cause c.write.new.self
      c.requires.drained
      (rw (c.write.ensures, c.nack.ensures, c.next_name-name.ensures.new, c.next_name-name.ensures.result, c.tag-tag.ensures) refl);
}
