use Rattle.std.proofs.Common.{◌+◌, refl}
use Rattle.tokio_sessions.proofs.WritingLemmas.{Laws, Sends_none, Sends_trans}
use Rattle.tokio_sessions.proofs.write_session.WriteSessionFuture.poll.Goals as goal

pub returns-in-Some-clause-sends : goal.returns-in-Some-clause-sends
returns-in-Some-clause-sends g c =
    let laws : Laws g.W.AsyncWrite.writes g.Q.FrameSource.gives = record { writes_nothing = g.met.W.AsyncWrite.writes_nothing; writes_in_order = g.met.W.AsyncWrite.writes_in_order; gives_nothing = g.met.Q.FrameSource.gives_nothing; gives_in_order = g.met.Q.FrameSource.gives_in_order } in
    Sends_none laws 64 _ _ refl refl refl

pub returns-clause-since : goal.returns-clause-since
returns-clause-since g c = λ first before.
    let laws : Laws g.W.AsyncWrite.writes g.Q.FrameSource.gives = record { writes_nothing = g.met.W.AsyncWrite.writes_nothing; writes_in_order = g.met.W.AsyncWrite.writes_in_order; gives_nothing = g.met.Q.FrameSource.gives_nothing; gives_in_order = g.met.Q.FrameSource.gives_in_order } in
    (before.0 + 64, Sends_trans laws before.0 64 first _ _ before.1 c.pass.ensures.sends)
