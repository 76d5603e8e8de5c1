use Rattle.std.proofs.Common.{◌≡◌, ◌+◌, vec_len}
use Rattle.hub.specs.Closing.{amounts_of}
use Rattle.hub.proofs.close.join_servers.Given as goal

abbrev pub invariant-loop-seat : goal.invariant-loop-seat
invariant-loop-seat g l =
    (l.all.parts + vec_len l.seats ≡ l.initial.all.parts + vec_len l.initial.seats)
    × (l.all.amount + amounts_of l.seats.items ≡ l.initial.all.amount + amounts_of l.initial.seats.items)

abbrev pub decreases-loop-seat : goal.decreases-loop-seat
decreases-loop-seat g l = goal.left-loop-seat g l
