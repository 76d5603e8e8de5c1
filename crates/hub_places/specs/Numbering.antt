-- Whose session it is that the lock of a slot keeps.
use Rattle.std.specs.Prelude.{◌≡◌, ℕ, Option}
use Rattle.std.specs.Option.{ForSome}
use Rattle.kept_session.specs.Reached.{Kept}
use Rattle.kept_session.specs.ReachedDown.{KeptDown}
use Rattle.hub_steps.specs.Down.{MayKeepDown}
use Rattle.hub_steps.specs.Up.{MayKeep}

-- the session that is there, if there is one, is the one towards this client
abbrev pub IsOfDown : (client : ℕ) → Option KeptDown → Type 0
IsOfDown client slot = ForSome slot (λ s. s.state.client ≡ client)

-- what the lock keeps for this client: its own session in a state that its calls led to, or none
abbrev pub KeepsDown : (client : ℕ) → Option KeptDown → Type 0
KeepsDown client slot = MayKeepDown slot × IsOfDown client slot

-- the same of the session towards a server that has this number
abbrev pub IsOfUp : (server : ℕ) → Option Kept → Type 0
IsOfUp server slot = ForSome slot (λ s. s.state.server ≡ server)

abbrev pub KeepsUp : (server : ℕ) → Option Kept → Type 0
KeepsUp server slot = MayKeep slot × IsOfUp server slot
