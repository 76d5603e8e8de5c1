use Rattle.std.proofs.Common.{◌≡◌}
use Rattle.futures.specs.Task.{Keeps}
use Rattle.line_session.specs.Talking.{Goes}
use Rattle.line_session.proofs.session.LineSession.turns.Given as goal

abbrev pub invariant-loop : goal.invariant-loop
invariant-loop g l = record {
  goes : Goes g.R.AsyncRead.reads g.W.AsyncWrite.writes g.A.Answers.answers l.counter l.fn.self l.self;
  end : l.self.end ≡ l.fn.self.end;
  kept : Keeps l.fn.cx l.cx;
}
