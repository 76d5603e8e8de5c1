use Rattle.std.proofs.Common.{sym}
use Rattle.server_session.proofs.Books.{tag_at}
use Rattle.server_session.proofs.session.ServerSession.due.Goals as goal

pub returns-clause-tag : goal.returns-clause-tag
returns-clause-tag c = tag_at c.self.inside.book.entries c.args.name.seq c.in-Some.entry.now c.self.invariant.tags (sym c.in-Some.ensures)
