use Rattle.std.proofs.Common.{◌≡◌, ◌+◌, ◌≤◌, vec_len, vec_capacity}
use Rattle.hub.proofs.open.up_slots.Given as goal

abbrev pub invariant-loop-place : goal.invariant-loop-place
invariant-loop-place g l =
    (vec_len l.slots ≡ l.place) × (l.count ≤ vec_capacity l.slots)
    × (l.pass ≡ (record l.initial.pass { low = l.first + l.place }))
