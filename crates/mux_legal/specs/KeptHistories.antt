-- The causes that one history could show by itself, and that none shows that a session keeps.
use Rattle.std.specs.Prelude.{ℕ, List, [], ◌∷◌, ◌≡◌, true, false}
use Rattle.mux_history.specs.Bounds.{Bounds}
use Rattle.mux_history.specs.declared.record.Record.{Record}
use Rattle.mux_history.specs.declared.session.InitMode.{InitMode}
use Rattle.mux_history.specs.declared.session.SessionId.{SessionId}
use Rattle.mux_agree.specs.Agree.{is_answered_twice, is_tag_fault, is_after_drain, is_on_lapsed}
use Rattle.mux_model.specs.Replay.{is_history}

-- a record that is at no fault with those before it in its own history
pub record IsFaultlessAlone (past : List Record) (r : Record) : Type 0 where
  pub answered_once : is_answered_twice past r ≡ false
  pub on_its_tag : is_tag_fault past r ≡ false
  pub before_drain : is_after_drain past r ≡ false
  pub on_its_lease : is_on_lapsed past r ≡ false

abbrev pub AreFaultlessAlone : List Record → Type 0
AreFaultlessAlone [] = Unit {0}
AreFaultlessAlone (r ∷ old) = IsFaultlessAlone old r × AreFaultlessAlone old

-- a name is answered once, tags are used in turn, and nothing is offered after a drain or on a lapsed lease
abbrev pub KeptHistoriesAreFaultless : Type 0
KeptHistoriesAreFaultless =
    (limits : Bounds) (boot : ℕ) (mode : InitMode) (id : SessionId) (rs : List Record)
    → is_history limits boot mode id rs ≡ true → AreFaultlessAlone rs
