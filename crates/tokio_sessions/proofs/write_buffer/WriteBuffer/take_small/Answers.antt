use Rattle.std.proofs.Common.{rules}
use Rattle.tokio_sessions.proofs.RunLemmas.{GivesRun_one}
use Rattle.tokio_sessions.proofs.write_buffer.WriteBuffer.take_small.Goals as goal

pub loop-count-preserved : goal.loop-count-preserved
loop-count-preserved c =
    let more = c.take_first.ensures.joined (search rules) in
    GivesRun_one _ _ _ more.0 _ _ _ _ c.loop-count.invariant more.1 more.2
