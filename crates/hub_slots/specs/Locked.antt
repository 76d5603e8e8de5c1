-- What is done under the lock of a slot.
use Rattle.std.specs.Prelude.{◌≡◌, Option, None}
use Rattle.client_session.specs.Past as up
use Rattle.server_session.specs.Past as down
use Rattle.kept_session.specs.Reached.{Kept}
use Rattle.kept_session.specs.ReachedDown.{KeptDown}
use Rattle.hub_steps.specs.Down.{MakesDown}
use Rattle.hub_steps.specs.Up.{Makes}

-- the session towards a client that the slot has made this step of its own, in states that a lock keeps; a slot with
-- none gives such an answer. `KeepsDown client` says whose session it is
abbrev pub LockedDown : (Keeps : Option KeptDown → Type 0) → (Step : down.Past → down.Past → Type 0) → (Empty : Type 0)
    → Type 0
LockedDown Keeps Step Empty =
    (s : Option KeptDown) × (t : Option KeptDown) × MakesDown s t Step × (s ≡ None → Empty) × Keeps s × Keeps t

-- the same of a session towards a server, by `KeepsUp server`, or `MayKeep` where it is whoever is there
abbrev pub LockedUp : (Keeps : Option Kept → Type 0) → (Step : up.Past → up.Past → Type 0) → (Empty : Type 0) → Type 0
LockedUp Keeps Step Empty =
    (s : Option Kept) × (t : Option Kept) × Makes s t Step × (s ≡ None → Empty) × Keeps s × Keeps t
