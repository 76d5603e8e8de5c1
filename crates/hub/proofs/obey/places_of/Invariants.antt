use Rattle.std.proofs.Common.{◌≡◌, take, length}
use Rattle.hub.specs.Naming.{AreNamed}
use Rattle.hub.proofs.obey.places_of.Given as goal

abbrev pub invariant-loop-name : goal.invariant-loop-name
invariant-loop-name l =
    AreNamed l.servers (take l.name-index l.names) l.places.items × (length l.places.items ≡ l.name-index)
