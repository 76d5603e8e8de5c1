use Rattle.std.proofs.Common.{rules, [], refl}
use Rattle.tokio_sessions.proofs.ReadingLemmas.{Moves_none}
use Rattle.tokio_sessions.proofs.read_session.ReadSession.decode.Goals as goal

pub returns-in-Err-clause-turn : goal.returns-in-Err-clause-turn
returns-in-Err-clause-turn g c =
    ([], Moves_none (record { reads_nothing = g.met.R.AsyncRead.reads_nothing; reads_in_order = g.met.R.AsyncRead.reads_in_order; takes_nothing = g.met.S.FrameSink.takes_nothing; takes_in_order = g.met.S.FrameSink.takes_in_order }) 1 c.args.self.now _ refl refl (search rules), (refl, search rules, search rules, search rules))
