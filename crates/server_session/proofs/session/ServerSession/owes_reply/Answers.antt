use Rattle.std.proofs.Common.{rules}
use Rattle.server_session.proofs.Books.{tag_at}
use Rattle.server_session.proofs.session.ServerSession.owes_reply.Goals as goal

pub returns-clause-due : goal.returns-clause-due
returns-clause-due c =
    (search rules, tag_at c.self.inside.book.entries c.args.settled.now.name.seq c.in-Some.entry.now c.self.invariant.tags (search rules), (c.in-Some.entry.now, search rules, (search rules, search rules, search rules)))
