use Rattle.tests_threads.proofs.routes.orders_refused.Given as goal

abbrev pub ghosts-wrong_answers : goal.ghosts-wrong_answers
ghosts-wrong_answers g a = record { book = a.opened.seen.book }
