use Rattle.std.proofs.Common.{◌≡◌, [], map, drop}
use Rattle.toml.specs.View.{view}
use Rattle.route_table.specs.Entries.{each, place_of, no_clash}
use Rattle.route_table.specs.Views.{servers_view}
use Rattle.route_table.proofs.route.places_in.Given as goal

abbrev pub invariant-loop-name : goal.invariant-loop-name
invariant-loop-name l =
    each (place_of (servers_view l.servers)) no_clash [] (map view l.names)
    ≡ each (place_of (servers_view l.servers)) no_clash l.places.items (map view (drop l.name-index l.names))
