use Rattle.tests_threads.proofs.sides.round_on_two_threads.Given as goal

-- the table that was just laid
abbrev pub ghosts-by_two : goal.ghosts-by_two
ghosts-by_two g a = record { table = a.laid.table.shared.table_id; terms = a.laid.table.shared.key }
