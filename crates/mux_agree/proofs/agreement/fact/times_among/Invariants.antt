use Rattle.std.proofs.Common.{◌≡◌, ◌≤◌, ◌*◌, ◌^◌, take}
use Rattle.mux_agree.specs.Agree.{times}
use Rattle.mux_agree.specs.Facts.{shows}
use Rattle.mux_agree.specs.Walk.{joined}
use Rattle.mux_agree.proofs.agreement.fact.times_among.Given as goal

-- how many there are in the epochs so far
abbrev pub invariant-loop-epoch : goal.invariant-loop-epoch
invariant-loop-epoch l =
    (l.all ≡ times (shows l.fact) l.name (joined (take l.epoch-index l.epochs))) × (l.all ≤ l.epoch-index * 2 ^ 64)
