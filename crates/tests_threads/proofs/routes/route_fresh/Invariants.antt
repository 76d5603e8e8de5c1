use Rattle.tests_threads.proofs.routes.route_fresh.Given as goal

abbrev pub ghosts-fresh : goal.ghosts-fresh
ghosts-fresh g a = record { book = a.opened.seen.book }
