use Rattle.hub_log.proofs.book.Pass.add.Given as goal

-- what the caller says of the move
abbrev pub ghosts-add_chosen : goal.ghosts-add_chosen
ghosts-add_chosen g a = record { is = g.M.Asks.ask a.self.now a._about.now }
