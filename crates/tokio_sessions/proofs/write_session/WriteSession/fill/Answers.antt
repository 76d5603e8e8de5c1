use Rattle.std.proofs.Common.{rules, ◌+◌, ◌-◌, refl, arith}
use Rattle.tokio_sessions.proofs.WritingLemmas.{Laws, Sends_none, Sends_trans, Sends_weaker}
use Rattle.tokio_sessions.proofs.write_session.WriteSession.fill.Goals as goal

pub loop-left-init : goal.loop-left-init
loop-left-init g c =
    let laws : Laws g.W.AsyncWrite.writes g.Q.FrameSource.gives = record { writes_nothing = g.met.W.AsyncWrite.writes_nothing; writes_in_order = g.met.W.AsyncWrite.writes_in_order; gives_nothing = g.met.Q.FrameSource.gives_nothing; gives_in_order = g.met.Q.FrameSource.gives_in_order } in record {
      bound = omega arith;
      sent = Sends_none laws 0 _ _ refl refl refl;
      end = refl;
      writer = refl;
      kept = λ fact holds. holds;
    }

pub returns-in-Some-clause-sends : goal.returns-in-Some-clause-sends
returns-in-Some-clause-sends g c =
    let laws : Laws g.W.AsyncWrite.writes g.Q.FrameSource.gives = record { writes_nothing = g.met.W.AsyncWrite.writes_nothing; writes_in_order = g.met.W.AsyncWrite.writes_in_order; gives_nothing = g.met.Q.FrameSource.gives_nothing; gives_in_order = g.met.Q.FrameSource.gives_in_order } in
    Sends_weaker laws (64 - c.loop-left.left + 1) 64 _ _ (omega (arith, c.loop-left-test.true)) (Sends_trans laws (64 - c.loop-left.left) 1 _ _ _ c.loop-left.invariant.sent c.take_frame.ensures.sends)

pub loop-left-preserved : goal.loop-left-preserved
loop-left-preserved g c =
    let laws : Laws g.W.AsyncWrite.writes g.Q.FrameSource.gives = record { writes_nothing = g.met.W.AsyncWrite.writes_nothing; writes_in_order = g.met.W.AsyncWrite.writes_in_order; gives_nothing = g.met.Q.FrameSource.gives_nothing; gives_in_order = g.met.Q.FrameSource.gives_in_order } in
    let before = 64 - c.loop-left.left in
    let run = c.take_run-left.result in
    let sent = Sends_trans laws before 1 _ _ _ c.loop-left.invariant.sent c.take_frame.ensures.sends in record {
      bound = omega (arith, c.loop-left.invariant.bound);
      sent = Sends_weaker laws (before + 1 + run) _ _ _ (omega (arith, c.loop-left-test.true, c.loop-left.invariant.bound, c.take_run-left.ensures.bound)) (Sends_trans laws (before + 1) run _ _ _ sent c.take_run-left.ensures.sends);
      end = search rules;
      writer = search rules;
      kept = search rules;
    }
