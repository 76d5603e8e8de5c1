-- The order of a router's stages.
use Rattle.std.specs.Prelude.{ℕ}
use Rattle.router_state.specs.declared.stage.Stage.{Stage}
use Rattle.router_state.specs.declared.stage.Stage.TheVariants.{Serving, Stopping, Abandoned}

abbrev pub rank_of : Stage → ℕ
rank_of Serving = 0
rank_of Stopping = 1
rank_of Abandoned = 2
