use Rattle.std.proofs.Common.{◌≡◌, ◌≤◌, vec_len, vec_capacity, length}
use Rattle.std.specs.Prelude.{All}
use Rattle.hub_slots.specs.Histories.{HasNoUp}
use Rattle.hub_slots.proofs.histories.no_ups.Given as goal

abbrev pub invariant-loop-place : goal.invariant-loop-place
invariant-loop-place l = (vec_len l.histories ≡ l.place) × (length l.servers ≤ vec_capacity l.histories) × All HasNoUp l.histories.items
