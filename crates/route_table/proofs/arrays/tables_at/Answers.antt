use Rattle.toml.specs.View.{view, table_view}
use Rattle.route_table.proofs.Values.{tables_judged}
use Rattle.route_table.proofs.arrays.tables_at.Goals as goal

pub returns-then-are_few_tables : goal.returns-then-are_few_tables
returns-then-are_few_tables c =
    tables_judged (table_view c.args.doc.now) c.args.key c.args.most (view c.in-Some.value.now) c.in-Some-list_of.tables.now _ _
    c.in-Some.ensures c.in-Some-list_of.ensures c.are_few_tables.ensures c.if-are_few_tables.true

pub returns-else-are_few_tables : goal.returns-else-are_few_tables
returns-else-are_few_tables c =
    tables_judged (table_view c.args.doc.now) c.args.key c.args.most (view c.in-Some.value.now) c.in-Some-list_of.tables.now _ _
    c.in-Some.ensures c.in-Some-list_of.ensures c.are_few_tables.ensures c.if-are_few_tables.false
