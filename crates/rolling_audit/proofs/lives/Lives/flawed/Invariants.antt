use Rattle.std.proofs.Common.{ℕ, ◌<◌}
use Rattle.rolling_audit.specs.Lives.{is_fine}
use Rattle.rolling_audit.specs.Taken.{PassesAt}
use Rattle.rolling_audit.proofs.lives.Lives.flawed.Given as goal

abbrev pub invariant-loop-place : goal.invariant-loop-place
invariant-loop-place l = (k : ℕ) → k < l.place → PassesAt is_fine l.self.lives.entries k
