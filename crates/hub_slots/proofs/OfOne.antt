-- The histories of one session that was kept.
use Rattle.std.proofs.Common.{List, [], ◌∷◌}
use Rattle.mux_history.specs.Log.{Log}
use Rattle.kept_session.specs.Reached.{IsAllOfOne, WereKept}
use Rattle.kept_session.specs.ReachedDown.{IsAllOfOneDown, WereKeptDown}
use Rattle.hub_slots.specs.Histories.{AreOfOne, AreOfOneDown}

pub are_of_one : (hs : List Log) → WereKept hs → IsAllOfOne hs → AreOfOne hs
are_of_one [] kept one = tt
are_of_one (h ∷ hs) kept one = (kept, one)

pub are_of_one_down : (hs : List Log) → WereKeptDown hs → IsAllOfOneDown hs → AreOfOneDown hs
are_of_one_down [] kept one = tt
are_of_one_down (h ∷ hs) kept one = (kept, one)
