use Rattle.std.proofs.Common.{◌≡◌, map, drop}
use Rattle.toml.specs.View.{view}
use Rattle.route_table.specs.Entries.{are_texts}
use Rattle.route_table.proofs.route.are_texts.Given as goal

abbrev pub invariant-loop-i : goal.invariant-loop-i
invariant-loop-i l = are_texts (map view l.values) ≡ are_texts (map view (drop l.i l.values))
