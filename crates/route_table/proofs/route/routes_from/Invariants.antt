use Rattle.std.proofs.Common.{◌≡◌, ℕ, List, [], map, drop}
use Rattle.std.specs.List.{list_any}
use Rattle.std.specs.HashSet.{contains_text}
use Rattle.toml.specs.View.{view}
use Rattle.route_table.specs.Entries.{each, route_of, is_to, dst_clash}
use Rattle.route_table.specs.Views.{servers_view, routes_view}
use Rattle.route_table.proofs.route.routes_from.Given as goal

abbrev pub invariant-loop-entry : goal.invariant-loop-entry
invariant-loop-entry l =
    (each (route_of (servers_view l.servers)) dst_clash [] (map view l.entries)
    ≡ each (route_of (servers_view l.servers)) dst_clash (routes_view l.routes.items) (map view (drop l.entry-index l.entries)))
    × ((d : List ℕ) → contains_text l.taken d ≡ list_any (is_to d) (routes_view l.routes.items))
