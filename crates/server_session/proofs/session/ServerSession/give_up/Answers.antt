use Rattle.std.proofs.Common.{◌∙◌, ap, arith}
use Rattle.translate_book.specs.Book.{entry_at}
use Rattle.translate_book.specs.Entries.{recall_from}
use Rattle.server_session.specs.State.{State}
use Rattle.server_session.proofs.Discarding.{shut_frees, gives_up}
use Rattle.server_session.proofs.session.ServerSession.give_up.Goals as goal

pub write-requires-clause-out : goal.write-requires-clause-out
write-requires-clause-out c =
    let e = c.requires.open in
    let room = c.change-effect.ensures.out e.0 e.1 in
    let frees = shut_frees c.args.why e.0 e.2 in
    omega (arith, room, frees, c.call_back-given.ensures.out)

pub returns-clause-result : goal.returns-clause-result
returns-clause-result c =
    let e = c.requires.open in
    rw (← c.naming-name.ensures) (c.recalled_by.ensures
    ∙ gives_up c.naming-name.result c.args.seq c.args.why c.args.self.now.book e.0 c.noted_place-place.result c.call_back-given.result e.1 e.2
    c.noted_place-place.ensures
    (c.call_back-given.ensures.result ∙ ap (λ (s : State). recall_from (entry_at c.args.seq s.book)) c.change-effect.ensures.new))
