use Rattle.hub_log.proofs.book.Pass.add_all.Given as goal

-- what the caller says of the moves
abbrev pub ghosts-add_chosen_all : goal.ghosts-add_chosen_all
ghosts-add_chosen_all g a = record { are = g.M.AsksAll.ask a.self.now a._about.now }
