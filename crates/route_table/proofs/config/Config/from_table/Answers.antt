use Rattle.toml.specs.View.{table_view}
use Rattle.route_table.proofs.Limits.{settings_within}
use Rattle.route_table.proofs.config.Config.from_table.Goals as goal

pub invariant_of-result : goal.invariant_of-result
invariant_of-result c =
    let (within, server_within) = settings_within (table_view c.args.doc.now) c.in_ok-listen.field-0 c.in_ok-listen.ensures in
    record { within = within; server_within = server_within }
