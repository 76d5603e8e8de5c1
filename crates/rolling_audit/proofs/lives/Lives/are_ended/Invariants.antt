use Rattle.std.proofs.Common.{ℕ, ◌<◌}
use Rattle.rolling_audit.specs.Lives.{is_ended_life}
use Rattle.rolling_audit.specs.Taken.{PassesAt}
use Rattle.rolling_audit.proofs.lives.Lives.are_ended.Given as goal

abbrev pub invariant-loop-place : goal.invariant-loop-place
invariant-loop-place l = (k : ℕ) → k < l.place → PassesAt is_ended_life l.self.lives.entries k
