use Rattle.toml.specs.View.{view, table_view}
use Rattle.route_table.proofs.Values.{names_judged}
use Rattle.route_table.proofs.route.names_at.Goals as goal

pub returns-then-are_names : goal.returns-then-are_names
returns-then-are_names c =
    names_judged (table_view c.args.doc.now) (view c.in-Some.value.now) c.in-Some-list_of.names.now _ _
    c.in-Some.ensures c.in-Some-list_of.ensures c.are_names.ensures c.if-are_names.true

pub returns-else-are_names : goal.returns-else-are_names
returns-else-are_names c =
    names_judged (table_view c.args.doc.now) (view c.in-Some.value.now) c.in-Some-list_of.names.now _ _
    c.in-Some.ensures c.in-Some-list_of.ensures c.are_names.ensures c.if-are_names.false
