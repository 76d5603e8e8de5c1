use Rattle.std.proofs.Common.{◌≡◌}
use Rattle.arrayvec.specs.ArrayVec.{array_vec_len}
use Rattle.replay_script.proofs.placing.candidates.Given as goal

abbrev pub invariant-loop-server : goal.invariant-loop-server
invariant-loop-server l = array_vec_len l.candidates ≡ l.server-index
