use Rattle.std.proofs.Common.{◌≡◌, ◌-◌, ◌≤◌, [], None}
use Rattle.futures.specs.Task.{Keeps}
use Rattle.tokio_sessions.specs.Reading.{Moves}
use Rattle.tokio_sessions.proofs.read_session.ReadSession.turns.Given as goal

abbrev pub invariant-loop-left : goal.invariant-loop-left
invariant-loop-left g l = record {
  bound : l.left ≤ 64;
  moved : Moves g.R.AsyncRead.reads g.S.FrameSink.takes (64 - l.left) [] l.fn.self l.self;
  end : l.self.end ≡ None;
  max_frame : l.self.max_frame ≡ l.fn.self.max_frame;
  kept : Keeps l.fn.cx l.cx;
}

abbrev pub decreases-loop-left : goal.decreases-loop-left
decreases-loop-left g l = l.left
