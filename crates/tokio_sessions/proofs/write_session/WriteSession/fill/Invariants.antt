use Rattle.std.proofs.Common.{◌≡◌, ◌-◌, ◌≤◌}
use Rattle.futures.specs.Task.{Keeps}
use Rattle.tokio_sessions.specs.Writing.{Sends}
use Rattle.tokio_sessions.proofs.write_session.WriteSession.fill.Given as goal

abbrev pub invariant-loop-left : goal.invariant-loop-left
invariant-loop-left g l = record {
  bound : l.left ≤ 64;
  sent : Sends g.W.AsyncWrite.writes g.Q.FrameSource.gives (64 - l.left) l.fn.self l.self;
  end : l.self.end ≡ l.fn.self.end;
  writer : l.self.writer ≡ l.fn.self.writer;
  kept : Keeps l.fn.cx l.cx;
}

abbrev pub decreases-loop-left : goal.decreases-loop-left
decreases-loop-left g l = l.left
