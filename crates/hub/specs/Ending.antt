-- What a hub leaves.
use Rattle.std.specs.Prelude.{List, All}
use Rattle.mux_agree.specs.declared.agreement.histories.DownHistory.{DownHistory}
use Rattle.mux_agree.specs.declared.agreement.histories.UpHistory.{UpHistory}
use Rattle.hub_slots.specs.Histories.{IsKeptDown, IsKeptUp}

-- the histories of sessions that were kept
abbrev pub AreKept : List DownHistory → List UpHistory → Type 0
AreKept downs ups = All IsKeptDown downs × All IsKeptUp ups
