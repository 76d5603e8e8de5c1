use Rattle.std.proofs.Common.{refl, inl, inr}
use Rattle.tokio_sessions.proofs.ReadingLemmas.{Laws, Moves_none, PollsTo_flushed}
use Rattle.tokio_sessions.proofs.read_session.ReadSession.pass.Goals as goal
use Rattle.tokio_sessions.proofs.read_session.ReadSession.pass.Goals.{then-asks_to_end, else-asks_to_end}

pub returns-clause-polls : goal.returns-clause-polls
returns-clause-polls g c =
    let laws : Laws g.R.AsyncRead.reads g.S.FrameSink.takes = record { reads_nothing = g.met.R.AsyncRead.reads_nothing; reads_in_order = g.met.R.AsyncRead.reads_in_order; takes_nothing = g.met.S.FrameSink.takes_nothing; takes_in_order = g.met.S.FrameSink.takes_in_order } in
    PollsTo_flushed laws g.R.AsyncRead.is_at_end g.R.AsyncRead.fails g.S.FrameSink.refuses g.S.FrameSink.says 64 _ _ c.if-asks_to_end.self _ c.finish.ensures.sink c.finish.ensures.refused c.finish.ensures.stop c.finish.ensures.same
    (elim c.if-asks_to_end.branch [
      | then-asks_to_end w ↦ inl (rw (w.if-asks_to_end.true) at c.asks_to_end.ensures, w.polled-is, rw w.self-is refl, rw w.self-is (Moves_none laws 0 _ _ refl refl refl))
      | else-asks_to_end w ↦ inr (rw (w.if-asks_to_end.false) at c.asks_to_end.ensures, rw (w.self-is, w.polled-is) w.turns-polled.ensures.turns)
    ])
