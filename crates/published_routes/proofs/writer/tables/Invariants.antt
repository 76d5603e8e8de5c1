use Rattle.std.proofs.Common.{◌≡◌, drop}
use Rattle.published_routes.specs.Orders.{opening, opened}
use Rattle.published_routes.proofs.writer.tables.Given as goal

abbrev pub invariant-loop-route : goal.invariant-loop-route
invariant-loop-route g l = (opened l.front (drop l.route-index l.routes) ≡ opening l.routes) × (l.first ≡ l.front) × (l.second ≡ l.front)
