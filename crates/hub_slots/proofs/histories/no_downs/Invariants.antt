use Rattle.std.proofs.Common.{◌≡◌, ◌≤◌, vec_len, vec_capacity}
use Rattle.std.specs.Prelude.{All}
use Rattle.hub_slots.specs.Histories.{HasNoDown}
use Rattle.hub_slots.proofs.histories.no_downs.Given as goal

abbrev pub invariant-loop-place : goal.invariant-loop-place
invariant-loop-place l = (vec_len l.histories ≡ l.place) × (l.count ≤ vec_capacity l.histories) × All HasNoDown l.histories.items
