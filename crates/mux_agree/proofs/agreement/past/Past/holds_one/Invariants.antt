use Rattle.std.proofs.Common.{◌≡◌, take}
use Rattle.std.specs.Prelude.{reverse, false}
use Rattle.mux_agree.specs.Outlines.{any_since, is_held}
use Rattle.mux_agree.specs.Seen.{past_of}
use Rattle.mux_agree.specs.Walk.{joined}
use Rattle.mux_agree.proofs.agreement.past.Past.holds_one.Given as goal

-- whether one waits after the epochs so far
abbrev pub invariant-loop-epoch : goal.invariant-loop-epoch
invariant-loop-epoch l = l.holds ≡ any_since (is_held l.session (past_of l.self)) false (reverse (joined (take l.epoch-index l.self.older.now)))
