use Rattle.std.proofs.Common.{◌≡◌, ◌≤◌, ◌+◌, take, length}
use Rattle.std.specs.Prelude.{map}
use Rattle.mux_agree.specs.Agree.{times}
use Rattle.mux_agree.specs.Facts.{shows}
use Rattle.mux_agree.specs.Tallies.{tallied}
use Rattle.mux_agree.specs.Walk.{all_records, kept_down, kept_up}
use Rattle.mux_agree.proofs.agreement.histories.Histories.times.Given as goal

-- how many there are in the clients' histories so far
abbrev pub invariant-loop-down : goal.invariant-loop-down
invariant-loop-down l =
    (tallied l.all ≡ times (shows l.fact) l.name (all_records (map kept_down (take l.down-index l.self.downs.now)))) × (l.all.wraps ≤ l.down-index)

-- how many there are in the clients', and in the servers' so far
abbrev pub invariant-loop-up : goal.invariant-loop-up
invariant-loop-up l =
    (tallied l.all
    ≡ times (shows l.fact) l.name (all_records (map kept_down l.self.downs.now))
    + times (shows l.fact) l.name (all_records (map kept_up (take l.up-index l.self.ups.now))))
    × (l.all.wraps ≤ length l.self.downs.now + l.up-index)
