use Rattle.std.proofs.Common.{◌≡◌, ◌+◌, ◌≤◌, length, take}
use Rattle.std.specs.Io.Slices.{io_slices_bytes}
use Rattle.tests_futures.proofs.futures_over_memory.ends.SeveralAsyncWrite.poll_write_vectored.Given as goal

abbrev pub invariant-loop-piece : goal.invariant-loop-piece
invariant-loop-piece l =
    (l.count + l.left ≡ l.initial.left) × (l.count ≤ length (io_slices_bytes (take l.piece-index l.bufs)))
