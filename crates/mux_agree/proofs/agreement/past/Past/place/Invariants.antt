use Rattle.std.proofs.Common.{◌≡◌, length, take}
use Rattle.mux_agree.specs.Walk.{joined, place_at}
use Rattle.mux_agree.proofs.agreement.past.Past.place.Given as goal

-- how many records there are in the epochs so far
abbrev pub invariant-loop-epoch : goal.invariant-loop-epoch
invariant-loop-epoch l = l.place ≡ place_at (length (joined (take l.epoch-index l.self.older.now)))
