-- What an operator is shown of whoever is there.
use Rattle.std.specs.Prelude.{ℕ, Option, Some, None}
use Rattle.kept_session.specs.ReachedDown.{KeptDown}
use Rattle.hub_steps.specs.Figures.{ShowsDown}
use Rattle.hub_steps.specs.declared.figures.DownFigures.{DownFigures}
use Rattle.hub_places.specs.Numbering.{IsOfDown}

-- the figures beside that client's number
abbrev pub ShowsNumbered : Option KeptDown → Option (ℕ × DownFigures) → Type 0
ShowsNumbered kept None = ShowsDown kept None
ShowsNumbered kept (Some (client, figures)) = ShowsDown kept (Some figures) × IsOfDown client kept
