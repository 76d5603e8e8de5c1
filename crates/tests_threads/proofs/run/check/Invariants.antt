use Rattle.std.specs.Prelude.{vec_len}
use Rattle.tests_threads.proofs.run.check.Given as goal

abbrev pub ghosts-run-L-Ledger : goal.ghosts-run-L-Ledger
ghosts-run-L-Ledger g a = record { name = a.blank.name; parts = a.blank.parts }

abbrev pub ghosts-run-L-Naming : goal.ghosts-run-L-Naming
ghosts-run-L-Naming g a = record { book = a.opened.seen.book }

abbrev pub ghosts-run-L-HubLedger : goal.ghosts-run-L-HubLedger
ghosts-run-L-HubLedger g a =
    record { all = a.blank.parts; sessions = a.config.now.sessions; servers = vec_len a.config.now.servers }

abbrev pub ghosts-run-L-Room : goal.ghosts-run-L-Room
ghosts-run-L-Room g a = record { table = a.laid.table.shared.table_id; terms = a.terms.now }
