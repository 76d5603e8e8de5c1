-- What holds of the histories of sessions before a hub begins, and at its end.
use Rattle.std.specs.Prelude.{◌≡◌, List, [], ◌∷◌}
use Rattle.mux_history.specs.Log.{Log}
use Rattle.mux_agree.specs.declared.agreement.histories.DownHistory.{DownHistory}
use Rattle.mux_agree.specs.declared.agreement.histories.UpHistory.{UpHistory}
use Rattle.kept_session.specs.Reached.{IsAllOfOne, WereKept}
use Rattle.kept_session.specs.ReachedDown.{IsAllOfOneDown, WereKeptDown}

-- no epoch
abbrev pub HasNoDown : DownHistory → Type 0
HasNoDown d = d.epochs.items ≡ []

abbrev pub HasNoUp : UpHistory → Type 0
HasNoUp u = u.epochs.items ≡ []

-- the histories of one session that was kept, all but those that it gave up; a slot with no session has none
abbrev pub AreOfOneDown : List Log → Type 0
AreOfOneDown [] = Unit {0}
AreOfOneDown (h ∷ hs) = WereKeptDown (h ∷ hs) × IsAllOfOneDown (h ∷ hs)

abbrev pub AreOfOne : List Log → Type 0
AreOfOne [] = Unit {0}
AreOfOne (h ∷ hs) = WereKept (h ∷ hs) × IsAllOfOne (h ∷ hs)

abbrev pub IsKeptDown : DownHistory → Type 0
IsKeptDown d = AreOfOneDown d.epochs.items

abbrev pub IsKeptUp : UpHistory → Type 0
IsKeptUp u = AreOfOne u.epochs.items
