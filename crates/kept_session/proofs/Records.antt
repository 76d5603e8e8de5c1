-- What a step adds to the records of its session, be it towards a server or a client.
use Rattle.std.proofs.Common.{ℕ, List, [], ◌∷◌, ◌++◌, ◌≡◌, ◌+◌, Bool, false, cond, refl, Option, Some, Result, Ok, Err, OnOk, sym, ◌∙◌, ap, subst, length, length-append, append_assoc, add_assoc, add-zero, inl, inr}
use Rattle.std.specs.Prelude.{◌||◌, if◌then◌else◌, reverse, slice_get}
use Rattle.std.proofs.lemmas.Grind.{reverse_onto, flat_map-append}
use Rattle.std.proofs.lemmas.List.{reverse-reverse, append-nil}
use Rattle.mux_history.specs.Log.{Log}
use Rattle.mux_agree.specs.Walk.{joined}
use Rattle.mux_history.specs.Readings.{written, present, is_cut, is_epoch, epoch_of, epoch_after}
use Rattle.mux_history.specs.declared.record.Record.{Record}
use Rattle.mux_history.specs.declared.kind.RecordKind.{RecordKind}
use Rattle.mux_history.specs.declared.kind.RecordKind.TheVariants.{Epoch, Rolled}
use Rattle.mux_model.specs.Entries.{Exchange}
use Rattle.mux_history.specs.declared.session.InitMode.{InitMode}
use Rattle.mux_history.specs.declared.session.InitMode.TheVariants.{Probe, Plain}
use Rattle.mux_model.specs.World.{first_step}
use Rattle.mux_model.specs.Steps.{Call, Step, records, with_record}
use Rattle.server_session.specs.Steps.{is_rolled}
use Rattle.kept_session.specs.Beginning.{has_rolled}
use Rattle.kept_session.specs.Histories.{AreAll, AreBehind, all_of}
use Rattle.kept_session.proofs.Going.{GoesOn, GoesOver}

-- the records of a state, the newest first
pub backwards : (rs : List Record) (steps : List Step) → rs ≡ reverse (written (records steps)) → written (records steps) ≡ reverse rs
backwards rs steps told = sym (ap (λ (xs : List Record). reverse xs) told ∙ reverse-reverse (written (records steps)))

-- and those of all its histories
pub all_back : (ended : List Log) (present : List Record) (steps : List Step) → AreAll ended present steps → reverse (all_of ended present) ≡ records steps
all_back ended present steps all = ap (λ (rs : List Record). reverse rs) all ∙ reverse-reverse (records steps)

-- where no roll began it, a history has all records since the session was last at rest
begun_at_rest : (rs : List Record) → has_rolled (written rs) ≡ false → written rs ≡ present rs
begun_at_rest [] h = refl
begun_at_rest (r ∷ old) h = by r.kind (begun_at_rest old) h
  where
    by : (k : RecordKind) → (has_rolled (written old) ≡ false → written old ≡ present old)
        → (is_rolled k || has_rolled (if is_cut k then [] else written old)) ≡ false
        → (r ∷ (if is_cut k then [] else written old)) ≡ (r ∷ (if is_epoch k then [] else present old))
    by (Epoch number standing) same h = refl
    by (Rolled number) same h = absurd (cc)
    by _ same h = ap (λ (xs : List Record). r ∷ xs) (same h)

pub rested : (rs : List Record) (steps : List Step) → rs ≡ reverse (written (records steps)) → has_rolled (reverse rs) ≡ false → present (records steps) ≡ reverse rs
rested rs steps told h =
    let same = backwards rs steps told in
    sym (begun_at_rest (records steps) (ap has_rolled same ∙ h)) ∙ same

-- a recorded call adds its record
pub one_more : (old new : List Record) (steps : List Step) (call : Call) (e : Exchange) (r : Record) → old ≡ reverse (written (records steps))
    → new ≡ reverse (written (records (record { call = call; entry = e } ∷ steps))) → e.rec ≡ Some r → is_cut r.kind ≡ false → new ≡ old ++ r ∷ []
one_more old new steps call e r before after rec going =
    let here : written (with_record e.rec (records steps)) ≡ r ∷ written (records steps) =
    ap (λ (o : Option Record). written (with_record o (records steps))) rec ∙ ap (λ (z : Bool). r ∷ cond z [] (written (records steps))) going in
    after ∙ (ap (λ (rs : List Record). reverse rs) here ∙ (reverse_onto (written (records steps)) r [] ∙ ap (λ (rs : List Record). rs ++ r ∷ []) (sym before)))

at_end : (rs : List Record) (r x : Record) → slice_get (rs ++ r ∷ []) (length rs) ≡ Some x → x ≡ r
at_end [] r x h = cc (sym h)
at_end (y ∷ rs) r x h = at_end rs r x h

-- where a step was made, one record with this is behind those before
abbrev pub Adds : {A E : Type 0} → (old new : List Record) → (Record → Type 0) → Result A E → Type 0
Adds old new P result = OnOk result ((r : Record) × (new ≡ old ++ r ∷ []) × P r)

pub grown : {A E : Type 0} (old new : List Record) (P : Record → Type 0) (result : Result A E) → Adds old new P result → OnOk result (length new ≡ length old + 1)
grown old new P (Ok step) p = ap (λ (rs : List Record). length rs) p.1 ∙ length-append old (p.0 ∷ [])
grown old new P (Err refused) p = tt

pub last_is : {A E : Type 0} (old new : List Record) (P : Record → Type 0) (result : Result A E) → Adds old new P result
    → OnOk result ((x : Record) → slice_get new (length old) ≡ Some x → P x)
last_is old new P (Ok step) p =
    λ x h. subst P (sym (at_end old p.0 x (subst (λ (rs : List Record). slice_get rs (length old) ≡ Some x) p.1 h))) p.2
last_is old new P (Err refused) p = tt

-- a record more stands behind all others
module _ (ended : List Log) (present : List Record) (before after : List Step) (r : Record) (all : AreAll ended present before)
    (more : records after ≡ r ∷ records before) where
  with_more : all_of ended present ++ r ∷ [] ≡ reverse (records after)
  with_more =
      ap (λ (rs : List Record). rs ++ r ∷ []) all
      ∙ sym (ap (λ (rs : List Record). reverse rs) more ∙ reverse_onto (records before) r [])

  -- in the present history
  pub here : AreAll ended (present ++ r ∷ []) after
  here = sym (append_assoc (joined ended) present (r ∷ [])) ∙ with_more

  -- in the next one, if the present one ends
  pub over : (log : Log) → log.records ≡ present → AreAll (ended ++ log ∷ []) (r ∷ []) after
  over log is =
      ap (λ (rs : List Record). rs ++ r ∷ [])
      (flat_map-append (λ (h : Log). h.records) ended (log ∷ []) ∙ ap (λ (rs : List Record). joined ended ++ rs) (append-nil log.records ∙ is))
      ∙ with_more

-- before any step a session has all records
pub begins_with_all : (mode : InitMode) (rs : List Record) → rs ≡ reverse (written (records (first_step mode))) → AreAll [] rs (first_step mode)
begins_with_all Probe rs h = h
begins_with_all Plain rs h = h

-- the number of the epoch stays, or it is the next one
epoch_stays : (k : RecordKind) (n : ℕ) → is_cut k ≡ false → epoch_after k n ≡ n
epoch_stays (Epoch number standing) n h = absurd (cc)
epoch_stays (Rolled number) n h = absurd (cc)
epoch_stays _ n h = refl

epoch_on : (before after : List Step) → GoesOn before after → epoch_of (records after) ≡ epoch_of (records before)
epoch_on before after (inl same) = ap epoch_of same
epoch_on before after (inr (r, more, going)) = ap epoch_of more ∙ epoch_stays r.kind (epoch_of (records before)) going

-- the first epoch has the number 0
pub begins_first : (mode : InitMode) → epoch_of (records (first_step mode)) ≡ 0
begins_first Probe = refl
begins_first Plain = refl

-- what the records of a state are once its list went on
module _ (before after : List Step) (old new : List Record) (was : old ≡ reverse (written (records before)))
    (is : new ≡ reverse (written (records after))) where
  keeps_all : (ended : List Log) → GoesOn before after → AreAll ended old before → AreAll ended new after
  keeps_all ended (inl same) all =
      ap (λ (rs : List Record). all_of ended rs) (is ∙ ap (λ (rs : List Record). reverse (written rs)) same ∙ sym was)
      ∙ all ∙ ap (λ (rs : List Record). reverse rs) (sym same)
  keeps_all ended (inr (r, more, going)) all =
      ap (λ (rs : List Record). all_of ended rs) (longer r more going) ∙ here ended old before after r all more
    where
      longer : (r : Record) → records after ≡ r ∷ records before → is_cut r.kind ≡ false → new ≡ old ++ r ∷ []
      longer r more going =
          is ∙ ap (λ (rs : List Record). reverse (written rs)) more
          ∙ (ap (λ (z : Bool). reverse (r ∷ cond z [] (written (records before)))) going
          ∙ (reverse_onto (written (records before)) r [] ∙ ap (λ (rs : List Record). rs ++ r ∷ []) (sym was)))

  takes_over : (ended : List Log) (log : Log) → GoesOver before after → log.records ≡ reverse (written (records before))
      → AreAll ended old before → AreAll (ended ++ log ∷ []) new after
  takes_over ended log (r, more, ends, number) told all =
      ap (λ (rs : List Record). all_of (ended ++ log ∷ []) rs)
      (is ∙ ap (λ (rs : List Record). reverse (written rs)) more ∙ ap (λ (z : Bool). reverse (r ∷ cond z [] (written (records before)))) ends)
      ∙ over ended old before after r all more log (told ∙ sym was)

  -- so many histories ended, as the number of the epoch says
  module _ {m n : ℕ} (at : m ≡ epoch_of (records before)) (to : n ≡ epoch_of (records after)) (gone ended : List Log) where
    pub behind_on : GoesOn before after → AreBehind gone ended old m before → AreBehind gone ended new n after
    behind_on on b = record {
      all = keeps_all (gone ++ ended) on b.all;
      count = b.count ∙ (at ∙ (sym (epoch_on before after on) ∙ sym to));
    }

    pub behind_over : (log : Log) → GoesOver before after → log.records ≡ reverse (written (records before))
        → AreBehind gone ended old m before → AreBehind gone (ended ++ log ∷ []) new n after
    behind_over log over told b = record {
      all = subst (λ (hs : List Log). AreAll hs new after) (append_assoc gone ended (log ∷ [])) (takes_over (gone ++ ended) log over told b.all);
      count =
          ap (λ (k : ℕ). length gone + k) (length-append ended (log ∷ []))
          ∙ (sym (add_assoc (length gone) (length ended) 1)
          ∙ (ap (λ (k : ℕ). k + 1) (b.count ∙ at) ∙ (sym (ap epoch_of over.1 ∙ over.3) ∙ sym to)));
    }

-- histories that are given up stand behind those that were before
pub given_up : (gone ended : List Log) (present : List Record) (epoch : ℕ) (steps : List Step)
    → AreBehind gone ended present epoch steps → AreBehind (gone ++ ended) [] present epoch steps
given_up gone ended present epoch steps b = record {
  all = subst (λ (hs : List Log). AreAll hs present steps) (sym (append-nil (gone ++ ended))) b.all;
  count = add-zero (length (gone ++ ended)) ∙ (length-append gone ended ∙ b.count);
}
