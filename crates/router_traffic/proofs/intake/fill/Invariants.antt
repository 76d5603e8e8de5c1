use Rattle.std.proofs.Common.{◌≡◌, ◌+◌, ◌-◌, ◌≤◌, ◌++◌, length}
use Rattle.tokio_sessions.specs.Passing.{TakesRun}
use Rattle.router_traffic.proofs.intake.fill.Given as goal

abbrev pub invariant-loop-count : goal.invariant-loop-count
invariant-loop-count g l = record {
  run : TakesRun (λ a fs b. b.frames ≡ a.frames ++ fs) l.fn.max_frame l.count l.fn.batch l.fn.read l.batch l.read;
  errands : l.batch.errands ≡ l.fn.batch.errands;
  free : l.room - l.count ≤ l.batch.room - (length l.batch.frames + length l.batch.errands);
}
