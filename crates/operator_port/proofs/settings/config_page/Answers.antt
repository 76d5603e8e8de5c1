use Rattle.std.proofs.Common.{map, codes}
use Rattle.route_table.specs.Table.{name_of}
use Rattle.operator_port.specs.Settings.{route_table, server_table, setting, shown_keys, value_of}
use Rattle.operator_port.proofs.TextLemmas.{runs_whole}
use Rattle.operator_port.proofs.settings.config_page.Goals as goal

pub returns : goal.returns
returns c =
    let config = c.args.config.now in
    let servers = rw c.as_slice.ensures.value at c.in_ok-push_all-2.ensures in
    let routes = rw c.as_slice-2.ensures.value at c.in_ok-push_all-3.ensures in
    runs_whole (map (λ key. setting (name_of key) (value_of config key)) shown_keys) (map server_table config.servers.items)
    (map (route_table config.servers.items) config.routes.items) (codes "# end") _ _ _ _ _
    c.new-text.ensures.items c.in_ok-push_all.ensures servers routes c.in_ok-push_line.ensures
