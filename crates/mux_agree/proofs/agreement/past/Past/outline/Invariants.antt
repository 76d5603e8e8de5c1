use Rattle.std.proofs.Common.{◌≡◌, ◌≤◌, ◌*◌, ◌^◌, take}
use Rattle.std.specs.Prelude.{reverse}
use Rattle.mux_agree.specs.Outlines.{outline_of}
use Rattle.mux_agree.specs.Walk.{joined}
use Rattle.mux_agree.proofs.agreement.past.Past.outline.Given as goal

-- the outline of the epochs so far, and its counts
abbrev pub invariant-loop-epoch : goal.invariant-loop-epoch
invariant-loop-epoch l =
    (l.outline ≡ outline_of l.about (reverse (joined (take l.epoch-index l.self.older.now))))
    × (l.outline.pings_sent ≤ l.epoch-index * 2 ^ 64)
    × (l.outline.pings_done ≤ l.epoch-index * 2 ^ 64)
