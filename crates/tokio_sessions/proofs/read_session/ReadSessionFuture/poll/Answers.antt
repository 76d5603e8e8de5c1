use Rattle.std.proofs.Common.{rules}
use Rattle.tokio_sessions.proofs.ReadingLemmas.{Since_poll}
use Rattle.tokio_sessions.proofs.read_session.ReadSessionFuture.poll.Goals as goal

pub returns-clause-since : goal.returns-clause-since
returns-clause-since g c = λ first before.
    Since_poll (record { reads_nothing = g.met.R.AsyncRead.reads_nothing; reads_in_order = g.met.R.AsyncRead.reads_in_order; takes_nothing = g.met.S.FrameSink.takes_nothing; takes_in_order = g.met.S.FrameSink.takes_in_order }) g.R.AsyncRead.is_at_end g.R.AsyncRead.fails g.S.FrameSink.refuses g.S.FrameSink.says 64 first _ c.pass.result _ before (search rules) c.pass.ensures.polls c.pass.ensures.told
