use Rattle.std.proofs.Common.{refl, arith}
use Rattle.tokio_sessions.proofs.WritingLemmas.{Laws, Sends_given}
use Rattle.tokio_sessions.proofs.write_session.WriteSession.take_run.Goals as goal

pub returns-clause-sends : goal.returns-clause-sends
returns-clause-sends g c =
    let laws : Laws g.W.AsyncWrite.writes g.Q.FrameSource.gives = record { writes_nothing = g.met.W.AsyncWrite.writes_nothing; writes_in_order = g.met.W.AsyncWrite.writes_in_order; gives_nothing = g.met.Q.FrameSource.gives_nothing; gives_in_order = g.met.Q.FrameSource.gives_in_order } in
    let run = c.give_run.ensures.run in
    Sends_given laws _ run.frames _ _ refl run.given (omega (arith, run.counted)) run.joined
