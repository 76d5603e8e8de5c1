use Rattle.std.proofs.Common.{◌≡◌, map}
use Rattle.route_table.specs.Routes.{routing}
use Rattle.route_table.proofs.routes.Routes.list.Given as goal

abbrev pub invariant-loop-dst : goal.invariant-loop-dst
invariant-loop-dst l = map routing l.list.items ≡ map (λ e. (e.0.now.items, e.1.now.items)) l.yielded
