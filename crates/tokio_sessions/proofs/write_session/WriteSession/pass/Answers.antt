use Rattle.tokio_sessions.proofs.WritingLemmas.{Laws, Sends_trans, Sends_end, WriteEnds_same}
use Rattle.tokio_sessions.proofs.write_session.WriteSession.pass.Goals as goal

pub returns-clause-sends : goal.returns-clause-sends
returns-clause-sends g c =
    let laws : Laws g.W.AsyncWrite.writes g.Q.FrameSource.gives = record { writes_nothing = g.met.W.AsyncWrite.writes_nothing; writes_in_order = g.met.W.AsyncWrite.writes_in_order; gives_nothing = g.met.Q.FrameSource.gives_nothing; gives_in_order = g.met.Q.FrameSource.gives_in_order } in
    let same = c.finish.ensures.same in
    Sends_end laws 64 c.args.self.now c.drain-polled.new.self _ same.0 same.1 same.2 (Sends_trans laws 64 0 _ _ _ c.fill.ensures.sends c.drain-polled.ensures.sends)

pub returns-clause-ends : goal.returns-clause-ends
returns-clause-ends g c =
    let same = c.finish.ensures.same in
    WriteEnds_same g.W.AsyncWrite.fails g.W.AsyncWrite.is_full g.Q.FrameSource.is_ended c.drain-polled.result c.drain-polled.new.self _ same.0 same.1 same.2 c.drain-polled.ensures.ends
