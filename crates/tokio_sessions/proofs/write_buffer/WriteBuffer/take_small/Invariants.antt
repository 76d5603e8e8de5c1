use Rattle.std.proofs.Common.{◌≡◌, ◌++◌}
use Rattle.tokio_sessions.specs.Passing.{GivesRun}
use Rattle.tokio_sessions.proofs.write_buffer.WriteBuffer.take_small.Given as goal

abbrev pub invariant-loop-count : goal.invariant-loop-count
invariant-loop-count l = GivesRun (λ a xs b. a ≡ xs ++ b) l.count l.fn.frames.items l.fn.self.bytes l.frames.items l.self.bytes
