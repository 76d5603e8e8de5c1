use Rattle.std.proofs.Common.{codes, flat_map, string_bytes}
use Rattle.operator_port.specs.Escapes.{toml_byte}
use Rattle.operator_port.specs.Settings.{names_line}
use Rattle.operator_port.proofs.TextLemmas.{parts_whole}
use Rattle.operator_port.proofs.settings.push_route.Goals as goal

pub returns : goal.returns
returns c =
    let route = c.args.route.now in
    let dst = rw c.as_str.ensures.value at c.in_ok-push_toml.ensures in
    parts_whole (codes "[[route]]\ndst = \"") (flat_map toml_byte (string_bytes route.dst)) (names_line c.args.servers.now route)
    _ _ _ _ c.in_ok-push_str.ensures dst c.in_ok-push_names.ensures
