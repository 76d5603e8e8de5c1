use Rattle.std.proofs.Common.{◌≡◌, take}
use Rattle.std.specs.Prelude.{reverse}
use Rattle.mux_agree.specs.Outlines.{any_since, is_held}
use Rattle.mux_agree.specs.Seen.{past_of}
use Rattle.mux_agree.proofs.agreement.past.Past.holds_after.Given as goal

-- whether one waits after the records so far
abbrev pub invariant-loop-entry : goal.invariant-loop-entry
invariant-loop-entry l = l.holds ≡ any_since (is_held l.session (past_of l.self)) l.fn.before (reverse (take l.entry-index l.records))
