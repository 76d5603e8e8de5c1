use Rattle.std.proofs.Common.{◌≡◌, ◌<◌, None, length}
use Rattle.futures.specs.Task.{Keeps}
use Rattle.tokio_sessions.specs.Writing.{Sends}
use Rattle.tokio_sessions.proofs.write_session.WriteSession.drain.Given as goal

abbrev pub invariant-loop : goal.invariant-loop
invariant-loop g l = record {
  sent : Sends g.W.AsyncWrite.writes g.Q.FrameSource.gives 0 l.fn.self l.self;
  end : l.self.end ≡ None;
  source : l.self.source ≡ l.fn.self.source;
  kept : Keeps l.fn.cx l.cx;
  full : 0 < length l.self.buffer.bytes → l.self.buffer.is_full ≡ l.fn.self.buffer.is_full;
}
