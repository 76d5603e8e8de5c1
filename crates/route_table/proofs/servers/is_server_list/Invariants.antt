use Rattle.std.proofs.Common.{◌≡◌, drop}
use Rattle.route_table.specs.Routes.{none_twice}
use Rattle.route_table.proofs.servers.is_server_list.Given as goal

abbrev pub invariant-loop-place : goal.invariant-loop-place
invariant-loop-place l = none_twice l.servers ≡ none_twice (drop l.place l.servers)
