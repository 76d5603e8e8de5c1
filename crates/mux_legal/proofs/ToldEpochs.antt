-- Of joined records, each epoch is a history; an Epoch record is what the records before it lead to.
use Rattle.std.proofs.Common.{ℕ, List, [], ◌∷◌, ◌≡◌, Bool, true, false, sym, ◌∙◌, ap}
use Rattle.std.specs.Prelude.{if◌then◌else◌}
use Rattle.std.proofs.lemmas.Bool.{and_parts, and_from}
use Rattle.mux_history.specs.Bounds.{Bounds}
use Rattle.mux_history.specs.declared.record.Record.{Record}
use Rattle.mux_history.specs.declared.kind.RecordKind.{RecordKind}
use Rattle.mux_history.specs.declared.kind.RecordKind.TheVariants.{Epoch}
use Rattle.mux_history.specs.declared.session.InitMode.{InitMode}
use Rattle.mux_history.specs.declared.session.SessionId.{SessionId}
use Rattle.mux_history.specs.declared.session.SessionId.TheVariants.{Client, Server}
use Rattle.mux_history.specs.Readings.{is_epoch, present, has_ended}
use Rattle.mux_history.specs.Standings.{leads_to}
use Rattle.mux_model.specs.Replay.{is_history, epochs, added, are_histories}
use Rattle.mux_legal.proofs.Basics.{not_true}
use Rattle.mux_legal.proofs.Following.{older, epochs_split}

module _ (limits : Bounds) (b : ℕ) (mode : InitMode) where
  shorter : (id : SessionId) (r : Record) (h : List Record) → is_history limits b mode id (r ∷ h) ≡ true → is_history limits b mode id h ≡ true
  shorter (Client k) r h e = (and_parts _ _ e).1
  shorter (Server k) r h e = (and_parts _ _ e).1

  -- the epoch of a record is a history, and so are those before the record
  pub each_epoch : (id : SessionId) (r : Record) (old : List Record) → are_histories limits b mode id (epochs (r ∷ old)) ≡ true →
      (is_history limits b mode id (r ∷ (if is_epoch r.kind then [] else present old)) ≡ true) × (are_histories limits b mode id (epochs old) ≡ true)
  each_epoch id r old h =
      (let x = epochs_split old in
      let y = by_test (is_epoch r.kind) (older old) (sym (ap (λ es. are_histories limits b mode id (added r es)) x) ∙ h) in
      (y.0, ap (are_histories limits b mode id) x ∙ y.1))
    where
      by_test : (t : Bool) (before : List (List Record)) →
          are_histories limits b mode id (if t then (r ∷ []) ∷ (present old ∷ before) else (r ∷ present old) ∷ before) ≡ true →
          (is_history limits b mode id (r ∷ (if t then [] else present old)) ≡ true) × (are_histories limits b mode id (present old ∷ before) ≡ true)
      by_test true before h = (let a = and_parts _ _ h in (a.0, a.1))
      by_test false before h = (let a = and_parts _ _ h in (a.0, and_from _ _ (shorter id r (present old) a.0) a.1))

  -- the present epoch is a history
  pub present_history : (id : SessionId) (rs : List Record) → are_histories limits b mode id (epochs rs) ≡ true → is_history limits b mode id (present rs) ≡ true
  present_history id rs h = (and_parts _ _ (sym (ap (are_histories limits b mode id) (epochs_split rs)) ∙ h)).0

-- an Epoch record begins on a session that goes on
pub leads_open : (mode : InitMode) (id : SessionId) (past : List Record) (r : Record) (k : RecordKind) → leads_to mode id past r k ≡ true → is_epoch k ≡ true → has_ended past ≡ false
leads_open mode id past r (Epoch number standing) h e = not_true (has_ended past) (and_parts _ _ (and_parts _ _ (and_parts _ _ h).0).0).1
leads_open mode id past r _ h e = absurd (cc)
