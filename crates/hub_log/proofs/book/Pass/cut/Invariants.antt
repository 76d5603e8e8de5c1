use Rattle.hub_log.proofs.book.Pass.cut.Given as goal

-- which claims the caller picks
abbrev pub ghosts-cut_picked : goal.ghosts-cut_picked
ghosts-cut_picked g a = record { picks = g.M.Picks.picks a.self.now a._about.now }
