use Rattle.std.proofs.Common.{◌≡◌, map, take}
use Rattle.std.specs.List.{range_with_len}
use Rattle.balancer.specs.Order.{loads_of}
use Rattle.balancer.proofs.Sorting.{key_at}
use Rattle.balancer.proofs.choice.order.Given as goal

abbrev pub invariant-loop-place : goal.invariant-loop-place
invariant-loop-place l = l.keys.items ≡ map (key_at (loads_of l.candidates)) (range_with_len 0 l.place)

abbrev pub invariant-loop-place-2 : goal.invariant-loop-place-2
invariant-loop-place-2 l = l.places.items ≡ map (λ k. k.1) (take l.place-index l.place-items)
