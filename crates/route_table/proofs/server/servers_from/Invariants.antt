use Rattle.std.proofs.Common.{◌≡◌, [], map, drop}
use Rattle.toml.specs.View.{view}
use Rattle.route_table.specs.Entries.{each, server_of, name_clash}
use Rattle.route_table.specs.Views.{servers_view}
use Rattle.route_table.proofs.server.servers_from.Given as goal

abbrev pub invariant-loop-entry : goal.invariant-loop-entry
invariant-loop-entry l =
    each server_of name_clash [] (map view l.entries) ≡ each server_of name_clash (servers_view l.servers.items) (map view (drop l.entry-index l.entries))
