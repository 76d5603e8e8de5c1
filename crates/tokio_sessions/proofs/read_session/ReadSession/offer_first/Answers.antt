use Rattle.std.proofs.Common.{rules, [], refl}
use Rattle.tokio_sessions.proofs.ReadingLemmas.{Moves_none}
use Rattle.tokio_sessions.proofs.read_session.ReadSession.offer_first.Goals as goal

pub returns-in-None-clause-turn : goal.returns-in-None-clause-turn
returns-in-None-clause-turn g c =
    ([], Moves_none (record { reads_nothing = g.met.R.AsyncRead.reads_nothing; reads_in_order = g.met.R.AsyncRead.reads_in_order; takes_nothing = g.met.S.FrameSink.takes_nothing; takes_in_order = g.met.S.FrameSink.takes_in_order }) 1 _ _ refl refl (search rules), refl)
