use Rattle.std.proofs.Common.{rules, [], ◌∷◌, refl, sym, lit≤, append-nil}
use Rattle.tokio_sessions.proofs.WritingLemmas.{Laws, Sends_given}
use Rattle.tokio_sessions.proofs.write_session.WriteSession.take_frame.Goals as goal

pub returns-in-Pending-clause-sends : goal.returns-in-Pending-clause-sends
returns-in-Pending-clause-sends g c =
    let laws : Laws g.W.AsyncWrite.writes g.Q.FrameSource.gives = record { writes_nothing = g.met.W.AsyncWrite.writes_nothing; writes_in_order = g.met.W.AsyncWrite.writes_in_order; gives_nothing = g.met.Q.FrameSource.gives_nothing; gives_in_order = g.met.Q.FrameSource.gives_in_order } in
    Sends_given laws 1 [] _ _ refl c.in-Pending.ensures.frames (lit≤ tt) (sym (append-nil _))

pub returns-in-Ready-None-clause-sends : goal.returns-in-Ready-None-clause-sends
returns-in-Ready-None-clause-sends g c =
    let laws : Laws g.W.AsyncWrite.writes g.Q.FrameSource.gives = record { writes_nothing = g.met.W.AsyncWrite.writes_nothing; writes_in_order = g.met.W.AsyncWrite.writes_in_order; gives_nothing = g.met.Q.FrameSource.gives_nothing; gives_in_order = g.met.Q.FrameSource.gives_in_order } in
    Sends_given laws 1 [] _ _ refl (rw c.in-Ready-None.field-0-is at c.in-Ready-None.ensures.frames) (lit≤ tt) (sym (append-nil _))

pub returns-in-Ready-Some-clause-sends : goal.returns-in-Ready-Some-clause-sends
returns-in-Ready-Some-clause-sends g c =
    let laws : Laws g.W.AsyncWrite.writes g.Q.FrameSource.gives = record { writes_nothing = g.met.W.AsyncWrite.writes_nothing; writes_in_order = g.met.W.AsyncWrite.writes_in_order; gives_nothing = g.met.Q.FrameSource.gives_nothing; gives_in_order = g.met.Q.FrameSource.gives_in_order } in
    Sends_given laws 1 (c.in-Ready-Some.frame ∷ []) _ _ refl (rw c.in-Ready-Some.field-0-is at c.in-Ready-Some.ensures.frames) (lit≤ tt) (search rules)
