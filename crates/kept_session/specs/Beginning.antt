-- Where a history begins.
use Rattle.std.specs.Prelude.{Bool, false, List, [], ◌∷◌, ◌||◌}
use Rattle.mux_history.specs.declared.record.Record.{Record}
use Rattle.server_session.specs.Steps.{is_rolled}

-- a roll began the history: it holds what records before it tell of
abbrev pub has_rolled : List Record → Bool
has_rolled [] = false
has_rolled (r ∷ old) = is_rolled r.kind || has_rolled old
