-- No record of a run is refused.
use Rattle.std.proofs.Common.{ℕ, List, [], ◌∷◌, ◌++◌, ◌+◌, ◌-◌, ◌^◌, ◌≡◌, ◌≤◌, ◌<◌, inl, inr, true, refl, sym, ◌∙◌, ap, subst, arith, drop, take, length, append_assoc, true≢false}
use Rattle.std.specs.Prelude.{map, reverse, min}
use Rattle.std.proofs.lemmas.List.{length-append, length-reverse, length-take-le, reverse-append, reverse-reverse, take-append-drop}
use Rattle.std.proofs.lemmas.Option.{get_or_from_slice_get, slice_get_within}
use Rattle.mux_history.specs.Bounds.{Bounds, InRange}
use Rattle.mux_history.specs.declared.name.Name.{Name}
use Rattle.mux_history.specs.declared.record.Record.{Record}
use Rattle.mux_history.specs.declared.session.SessionId.{SessionId}
use Rattle.mux_history.specs.Readings.{is_named, is_offered}
use Rattle.mux_agree.specs.Agree.{times}
use Rattle.mux_agree.specs.Walk.{Kept, all_records}
use Rattle.mux_agree.proofs.Counts.{times-append}
use Rattle.mux_agree.proofs.Walks.{drop_more}
use Rattle.mux_model.specs.Events.{Event, run, AllChooseFree}
use Rattle.mux_model.specs.Legal.{Line, EachLine, tally}
use Rattle.mux_model.specs.Replay.{is_joined}
use Rattle.mux_model.specs.Runs.{EachConnection, lines}
use Rattle.mux_model.specs.Steps.{entries, records}
use Rattle.mux_model.specs.World.{Connection, start, starts}
use Rattle.mux_model.proofs.Happens.{run_reached}
use Rattle.mux_legal.specs.KeptRuns.{history_of}
use Rattle.mux_legal.specs.RunsBearOut.{of_boot}
use Rattle.mux_legal.proofs.Kept.{records_follow}
use Rattle.mux_legal.proofs.OfBoot.{each_of_boot, each_with, tally_occurs}
use Rattle.mux_legal.proofs.Owed.{reached_owed}
use Rattle.mux_legal.proofs.RunsBorne.{runs_bear_out}
use Rattle.rolling_audit.specs.declared.fault.RecordFault.{RecordFault}
use Rattle.rolling_audit.specs.declared.fault.RecordFault.TheVariants as causes
use Rattle.rolling_audit.specs.declared.fault.RollingFault.TheVariants as faults
use Rattle.rolling_audit.specs.Faults as borne
use Rattle.rolling_audit.specs.Faults.{AreOf, HasCause, IsBegun, IsFaulty}
use Rattle.rolling_audit.specs.Histories.{behind, longer}
use Rattle.rolling_audit.proofs.Behinds.{kept_behind, kept_is, times_behind}
use Rattle.rolling_audit.proofs.Borne.{accuse_rightly}
use Rattle.audit_laws.specs.AuditedRuns.{Leaves, NeverAccused, NeverRefused, histories_of}
use Rattle.audit_laws.proofs.Few.{named_few}
use Rattle.audit_laws.proofs.Fit.{EachBehind, IsFit, all_fit, at_behind}

-- a history each of whose records is fit
abbrev FitIn : (b : ℕ) → Kept → Type 0
FitIn b h = EachBehind (IsFit b h.session) (reverse h.records)

at_history : (P : Kept → Type 0) (ls : List Line) → EachLine (λ l. P (history_of l)) ls → (before : List Kept) (h : Kept) (after : List Kept) → map history_of ls ≡ before ++ h ∷ after → P h
at_history P [] each [] h after e = absurd (cc)
at_history P [] each (x ∷ before) h after e = absurd (cc)
at_history P (l ∷ ls) each [] h after e = (let same : history_of l ≡ h = cc in subst P same each.0)
at_history P (l ∷ ls) each (x ∷ before) h after e = (let rest : map history_of ls ≡ before ++ h ∷ after = cc in at_history P ls each.1 before h after rest)

-- A RECORD THAT IS REFUSED, where each of the histories is fit

module _ (hs taken : List Kept) (b : ℕ) (id : SessionId) (rs : List Record) (place : ℕ) (cause : RecordFault) (of : AreOf hs (behind id rs taken) id)
    (f : IsFaulty b taken id rs place cause) (fit : (before : List Kept) (h : Kept) (after : List Kept) → hs ≡ before ++ h ∷ after → FitIn b h) where
  -- the records before it of its session, and those that were handed in behind it
  abbrev before : List Record
  before = f.own.records ++ take f.index rs

  abbrev rest : List Record
  rest = drop (f.index + 1) rs

  parted : rs ≡ take f.index rs ++ f.met ∷ rest
  parted =
      sym (take-append-drop f.index rs)
      ∙ ap (λ l. take f.index rs ++ l) (drop_more rs f.index f.met (slice_get_within rs f.index f.met f.stands)
      ∙ ap (λ r. r ∷ rest) (get_or_from_slice_get rs f.index f.met f.met f.stands))

  begun : IsBegun hs (longer f.own rs)
  begun = of.begun (longer f.own rs) (kept_behind id rs taken f.own f.kept)

  stands : (f.own.records ++ rs) ++ begun.later ≡ before ++ f.met ∷ (rest ++ begun.later)
  stands =
      ap (λ l. (f.own.records ++ l) ++ begun.later) parted
      ∙ (ap (λ l. l ++ begun.later) (sym (append_assoc f.own.records (take f.index rs) (f.met ∷ rest))) ∙ append_assoc before (f.met ∷ rest) begun.later)

  turned : reverse ((f.own.records ++ rs) ++ begun.later) ≡ reverse (rest ++ begun.later) ++ f.met ∷ reverse before
  turned =
      ap reverse stands
      ∙ (reverse-append before (f.met ∷ (rest ++ begun.later))
      ∙ (ap (λ l. l ++ reverse before) (reverse-append (f.met ∷ []) (rest ++ begun.later)) ∙ append_assoc (reverse (rest ++ begun.later)) (f.met ∷ []) (reverse before)))

  pub fits : IsFit b id (reverse before) f.met
  fits =
      let whole = fit begun.before (longer (longer f.own rs) begun.later) begun.after begun.whole in
      at_behind (IsFit b id) (reverse (rest ++ begun.later)) f.met (reverse before)
      (subst (λ (s : SessionId). EachBehind (IsFit b s) (reverse (rest ++ begun.later) ++ f.met ∷ reverse before)) (kept_is id taken f.own f.kept)
      (subst (EachBehind (IsFit b f.own.session)) turned whole))

-- THE HISTORIES OF A BOOT

abbrev FitLine : Line → Type 0
FitLine l = EachBehind (IsFit l.boot l.session) (records l.steps)

pub joined_lines : (limits : Bounds) (cs : List Connection) → EachConnection (λ c. is_joined limits c.boot c.mode c.session (records c.steps) ≡ true) cs →
    EachLine (λ l. is_joined limits l.boot l.mode l.session (records l.steps) ≡ true) (lines cs)
joined_lines limits [] h = tt
joined_lines limits (c ∷ cs) h = (h.0, joined_lines limits cs h.1)

lines_fit : (limits : Bounds) (boot : ℕ) (events : List (ℕ × Event)) → AllChooseFree (start limits boot) events → EachLine FitLine (lines (run (start limits boot) events).connections)
lines_fit limits boot events free =
    let w = run (start limits boot) events in
    let ls = lines w.connections in
    let o = reached_owed (run_reached (start limits boot) events free (starts limits boot)) in
    each_with (λ l. is_joined limits l.boot l.mode l.session (records l.steps) ≡ true) (λ l. (n : Name) → 1 ≤ tally is_offered n (entries l.steps) → n.boot ≡ l.boot) FitLine
    (λ l j offered. all_fit limits l.boot l.mode l.session (records l.steps) j (λ n one. offered n (omega (arith, one, tally_occurs is_offered n l.steps)))) ls
    (joined_lines limits w.connections (records_follow limits boot events free)) o.offered

pub histories_fit : (limits : Bounds) (boot : ℕ) (events : List (ℕ × Event)) → AllChooseFree (start limits boot) events → (b : ℕ) →
    (before : List Kept) (h : Kept) (after : List Kept) → histories_of limits boot events b ≡ before ++ h ∷ after → FitIn b h
histories_fit limits boot events free b =
    let ls = lines (run (start limits boot) events).connections in
    at_history (FitIn b) (of_boot b ls)
    (each_of_boot FitLine (λ l. FitIn b (history_of l)) b
    (λ l e x. subst (EachBehind (IsFit b l.session)) (sym (reverse-reverse (records l.steps))) (subst (λ y. EachBehind (IsFit y l.session) (records l.steps)) e x)) ls
    (lines_fit limits boot events free))

-- of each cause
module _ (limits : Bounds) (boot : ℕ) (events : List (ℕ × Event)) (range : InRange limits) (free : AllChooseFree (start limits boot) events) (b : ℕ)
    (taken : List Kept) (id : SessionId) (rs : List Record) (place : ℕ) (cause : RecordFault) (of : AreOf (histories_of limits boot events b) (behind id rs taken) id)
    (f : IsFaulty b taken id rs place cause) where
  abbrev hs : List Kept
  hs = histories_of limits boot events b

  abbrev past : List Record
  past = reverse (f.own.records ++ take f.index rs)

  abbrev walked : List Record
  walked = all_records (behind id (take f.index rs) taken)

  fit : IsFit b id past f.met
  fit = fits hs taken b id rs place cause of f (histories_fit limits boot events free b)

  -- those that were taken before it are some of the histories' records
  few : (n : Name) → times (λ k. true) n walked ≤ 23
  few n =
      let all = named_few limits boot events range free b n in
      let within = of.few (λ r. is_named n r.name) in
      let whole = times_behind id rs (λ k. true) n taken f.own f.kept in
      let part = times_behind id (take f.index rs) (λ k. true) n taken f.own f.kept in
      let two = ap (times (λ k. true) n) (parted hs taken b id rs place cause of f (histories_fit limits boot events free b)) ∙ times-append (λ k. true) n (take f.index rs) (f.met ∷ drop (f.index + 1) rs) in
      omega (arith, all, within, whole, part, two)

  -- a cause that leaves nothing where histories bear each other out
  left : (x : RecordFault) → HasCause x b f.own.mode id past walked f.met → borne.Leaves x id past f.met
  left x has =
      accuse_rightly hs taken b id rs place x (runs_bear_out limits boot events free b) of
      (record { own = f.own; kept = f.kept; index = f.index; met = f.met; stands = f.stands; placed = f.placed; faulty = has })

  by_cause : (x : RecordFault) → HasCause x b f.own.mode id past walked f.met → Leaves x past
  by_cause causes.OtherBoot has = true≢false (sym has ∙ fit.here)
  by_cause causes.Nameless has = true≢false (sym has ∙ fit.called)
  by_cause causes.OtherClient has = true≢false (sym has ∙ fit.own)
  by_cause causes.NotNext has = true≢false (sym has ∙ fit.next)
  by_cause causes.AfterDrain has = left causes.AfterDrain has
  by_cause causes.Lapsed has = left causes.Lapsed has
  by_cause causes.TagOpen has = left causes.TagOpen has
  by_cause causes.AnsweredTwice has = left causes.AnsweredTwice has
  by_cause causes.BadEpoch has = (let x = left causes.BadEpoch has in fit.rested x.0 x.1)
  by_cause causes.Uncounted (inr many) = many
  by_cause causes.Uncounted (inl named) = absurd (omega (arith, named.2, few named.0))

  pub leaves : Leaves cause past
  leaves = by_cause cause f.faulty

pub never_accused : NeverAccused
never_accused limits boot events range free b taken id rs place cause of f = leaves limits boot events range free b taken id rs place cause of f

-- what is told of it: a place that is past the last number is told as that
last_place : (n : ℕ) → 2 ^ 64 - 1 ≤ n → min n (2 ^ 64 - 1) ≡ 2 ^ 64 - 1
last_place n h = omega (arith, h)

as_many : (xs rs : List Record) (k : ℕ) → k < length rs → length (reverse (xs ++ take k rs)) ≡ length xs + k
as_many xs rs k within = length-reverse (xs ++ take k rs) ∙ (length-append xs (take k rs) ∙ ap (λ n. length xs + n) (length-take-le k rs (omega (arith, within))))

pub never_refused : NeverRefused
never_refused limits boot events range free b taken old new id rs (faults.Memory more) here is of left = left.0
never_refused limits boot events range free b taken old new id rs (faults.NotOpen session) here is of left = left.1
never_refused limits boot events range free b taken old new id rs (faults.Dispatch name flaw) here is of left = left
never_refused limits boot events range free b taken old new id rs (faults.Record session place cause) here is of left = by_cause cause refl (never_accused limits boot events range free b taken id rs place cause of f)
  where
    f : IsFaulty b taken id rs place cause
    f = subst (λ x. IsFaulty x taken id rs place cause) here (left.1 taken is)

    by_cause : (x : RecordFault) → cause ≡ x → Leaves x (reverse (f.own.records ++ take f.index rs)) → (cause ≡ causes.Uncounted) × (place ≡ 2 ^ 64 - 1)
    by_cause causes.Uncounted e h =
        let many = as_many f.own.records rs f.index (slice_get_within rs f.index f.met f.stands) in
        (e, f.placed ∙ last_place (length f.own.records + f.index) (omega (arith, h, many)))
    by_cause _ e h = absurd h
