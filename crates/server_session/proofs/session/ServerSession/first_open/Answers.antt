use Rattle.std.proofs.Common.{ap, sym, ◌∙◌}
use Rattle.server_session.specs.State.{State}
use Rattle.translate_book.specs.Book.{entry_at}
use Rattle.server_session.proofs.Naming.{opened}
use Rattle.server_session.proofs.session.ServerSession.first_open.Goals as goal

pub returns-clause-some : goal.returns-clause-some
returns-clause-some c =
    let t = c.in_ok-seq.field-0-0.now in
    let seq = c.in_ok-seq.seq.now in
    let x = opened t 0 c.self.inside.book.entries c.self.inside.book.last seq c.len-held.ensures.rising (sym (c.open_tags.ensures t) ∙ c.in_ok-seq.ensures.value) in
    (x.0, ap (λ (s : State). entry_at seq s.book) (sym c.self.view_is) ∙ x.1, x.2)
