use Rattle.std.proofs.Common.{◌≡◌, ◌≤◌, ◌+◌, take}
use Rattle.std.specs.Prelude.{reverse}
use Rattle.mux_agree.specs.Outlines.{outline_from}
use Rattle.mux_agree.proofs.agreement.outline.Outline.after_all.Given as goal

-- the outline of the records so far, and its counts
abbrev pub invariant-loop-entry : goal.invariant-loop-entry
invariant-loop-entry l =
    (l.outline ≡ outline_from l.about l.fn.self (reverse (take l.entry-index l.records)))
    × (l.outline.pings_sent ≤ l.fn.self.pings_sent + l.entry-index)
    × (l.outline.pings_done ≤ l.fn.self.pings_done + l.entry-index)
