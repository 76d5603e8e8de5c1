use Rattle.std.proofs.Common.{rules, refl}
use Rattle.tokio_sessions.proofs.ReadingLemmas.{Laws, Moves_none, Moves_run}
use Rattle.tokio_sessions.proofs.read_session.ReadSession.take_run.Goals as goal

pub returns-then-is_some-clause-moved : goal.returns-then-is_some-clause-moved
returns-then-is_some-clause-moved g c =
    let laws : Laws g.R.AsyncRead.reads g.S.FrameSink.takes = record { reads_nothing = g.met.R.AsyncRead.reads_nothing; reads_in_order = g.met.R.AsyncRead.reads_in_order; takes_nothing = g.met.S.FrameSink.takes_nothing; takes_in_order = g.met.S.FrameSink.takes_in_order } in
    Moves_none laws 0 _ _ refl refl refl

pub returns-clause-moved : goal.returns-clause-moved
returns-clause-moved g c =
    let laws : Laws g.R.AsyncRead.reads g.S.FrameSink.takes = record { reads_nothing = g.met.R.AsyncRead.reads_nothing; reads_in_order = g.met.R.AsyncRead.reads_in_order; takes_nothing = g.met.S.FrameSink.takes_nothing; takes_in_order = g.met.S.FrameSink.takes_in_order } in
    let run = c.take_run.ensures.run in
    Moves_run laws _ run.frames _ _ refl (search rules) (search rules) run.taken run.counted run.cut
