use Rattle.std.proofs.Common.{sym}
use Rattle.tokio_sessions.proofs.ReadingLemmas.{Laws, Moves_trans}
use Rattle.tokio_sessions.proofs.read_session.ReadSession.read_on.Goals as goal

pub returns-in-Again-clause-turn : goal.returns-in-Again-clause-turn
returns-in-Again-clause-turn g c =
    let laws : Laws g.R.AsyncRead.reads g.S.FrameSink.takes = record { reads_nothing = g.met.R.AsyncRead.reads_nothing; reads_in_order = g.met.R.AsyncRead.reads_in_order; takes_nothing = g.met.S.FrameSink.takes_nothing; takes_in_order = g.met.S.FrameSink.takes_in_order } in
    let read = c.in-Again.ensures.turn in
    let turn = c.offer_first.ensures.turn in
    (turn.0, Moves_trans laws 0 1 turn.0 _ _ _ (rw (sym read.2) read.1) turn.1, turn.2)
