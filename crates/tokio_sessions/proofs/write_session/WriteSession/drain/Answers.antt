use Rattle.std.proofs.Common.{rules, refl}
use Rattle.tokio_sessions.proofs.WritingLemmas.{Laws, Sends_none, Sends_trans}
use Rattle.tokio_sessions.proofs.write_session.WriteSession.drain.Goals as goal

pub loop-init : goal.loop-init
loop-init g c =
    let laws : Laws g.W.AsyncWrite.writes g.Q.FrameSource.gives = record { writes_nothing = g.met.W.AsyncWrite.writes_nothing; writes_in_order = g.met.W.AsyncWrite.writes_in_order; gives_nothing = g.met.Q.FrameSource.gives_nothing; gives_in_order = g.met.Q.FrameSource.gives_in_order } in record {
      sent = Sends_none laws 0 _ _ refl refl refl;
      end = search rules;
      source = refl;
      kept = λ fact holds. holds;
      full = λ some. refl;
    }

pub returns-in-Wait-clause-sends : goal.returns-in-Wait-clause-sends
returns-in-Wait-clause-sends g c =
    let laws : Laws g.W.AsyncWrite.writes g.Q.FrameSource.gives = record { writes_nothing = g.met.W.AsyncWrite.writes_nothing; writes_in_order = g.met.W.AsyncWrite.writes_in_order; gives_nothing = g.met.Q.FrameSource.gives_nothing; gives_in_order = g.met.Q.FrameSource.gives_in_order } in
    Sends_trans laws 0 0 _ _ _ c.loop.invariant.sent c.write.ensures.sends

pub returns-in-Over-clause-sends : goal.returns-in-Over-clause-sends
returns-in-Over-clause-sends g c =
    let laws : Laws g.W.AsyncWrite.writes g.Q.FrameSource.gives = record { writes_nothing = g.met.W.AsyncWrite.writes_nothing; writes_in_order = g.met.W.AsyncWrite.writes_in_order; gives_nothing = g.met.Q.FrameSource.gives_nothing; gives_in_order = g.met.Q.FrameSource.gives_in_order } in
    Sends_trans laws 0 0 _ _ _ c.loop.invariant.sent c.write.ensures.sends

pub loop-preserved : goal.loop-preserved
loop-preserved g c =
    let laws : Laws g.W.AsyncWrite.writes g.Q.FrameSource.gives = record { writes_nothing = g.met.W.AsyncWrite.writes_nothing; writes_in_order = g.met.W.AsyncWrite.writes_in_order; gives_nothing = g.met.Q.FrameSource.gives_nothing; gives_in_order = g.met.Q.FrameSource.gives_in_order } in record {
      sent = Sends_trans laws 0 0 _ _ _ c.loop.invariant.sent c.write.ensures.sends;
      end = search rules;
      source = search rules;
      kept = search rules;
      full = search rules;
    }
