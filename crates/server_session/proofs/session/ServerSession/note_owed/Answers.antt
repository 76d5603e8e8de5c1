use Rattle.std.proofs.Common.{refl}
use Rattle.server_session.proofs.Awaiting.{note_open}
use Rattle.server_session.proofs.session.ServerSession.note_owed.Goals as goal

pub returns : goal.returns
returns c = λ p b.
    let x = c.args.placed in
    note_open c.args.self.now p x.name c.args.owed.tag (record { server = x.server; tag = x.tag }) _ b c.requires
    (rw (c.write.ensures, c.change_noted-effect.ensures.new, c.name-name.ensures, c.server.ensures, c.tag.ensures) refl)
