use Rattle.std.specs.Prelude.{⊤}
use Rattle.tokio_sessions.specs.Passing.{TakesRun}
use Rattle.tests_futures.proofs.futures_over_memory.ends.PickyFrameSink.take_run.Given as goal

abbrev pub invariant-loop-count : goal.invariant-loop-count
invariant-loop-count l = TakesRun (λ _ _ _. ⊤) l.fn.max_frame l.count l.fn.self l.fn.read l.self l.read
