use Rattle.std.specs.Prelude.{⊤}
use Rattle.tokio_sessions.proofs.RunLemmas.{TakesRun_one}
use Rattle.tests_futures.proofs.futures_over_memory.ends.PickyFrameSink.take_run.Goals as goal

pub loop-count-preserved : goal.loop-count-preserved
loop-count-preserved c =
    let cut = c.in-Some.ensures.cut in
    TakesRun_one (λ _ _ _. ⊤) (λ a xs b ys c p q. tt) _ _ _ _ _ _ _ _ _ c.loop-count.invariant tt cut.0 cut.1
