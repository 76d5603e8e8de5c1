use Rattle.std.proofs.Common.{arith, sym}
use Rattle.toml.specs.View.{table_view}
use Rattle.route_table.specs.declared.key.Key.TheVariants.{Window, ServerWindow}
use Rattle.route_table.proofs.Limits.{number_within}
use Rattle.route_table.proofs.settings.settings_in.Goals as goal

pub overflow_add-window : goal.overflow_add-window
overflow_add-window c =
    let within = number_within (table_view c.args.doc.now) Window _ c.in_ok-window.window (sym c.in_ok-window.ensures) in
    omega (arith, within.1)

pub overflow_add-least : goal.overflow_add-least
overflow_add-least c =
    let within = number_within (table_view c.args.doc.now) ServerWindow _ c.in_ok-server_window.server_window (sym c.in_ok-server_window.ensures) in
    omega (arith, within.1)
