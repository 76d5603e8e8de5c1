use Rattle.hub_log.specs.Views.{View, AddedAll}
use Rattle.hub_log.proofs.book.Pass.reach.Given as goal

-- the moves are some by which the goal becomes so
abbrev pub ghosts-add_chosen_all : goal.ghosts-add_chosen_all
ghosts-add_chosen_all g a =
    record { are = λ ms. (w : View) → AddedAll g.B.Room.terms ms a.self.now w → g.G.Goal.goal a._about.now w }
