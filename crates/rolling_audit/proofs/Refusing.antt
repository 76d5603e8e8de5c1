-- A record that isn't taken has the cause that is told.
use Rattle.std.proofs.Common.{ℕ, List, [], ◌∷◌, ◌+◌, ◌≡◌, ◌<◌, ◌≤◌, ◌&&◌, Bool, true, cond, sym, ◌∙◌, ap, subst, arith, inl, Option, Some, Result, Ok, Err, length, take, get_or}
use Rattle.std.specs.Prelude.{IfErr, nat_lt, reverse}
use Rattle.std.proofs.lemmas.Bool.{and_parts, lt-ltb}
use Rattle.std.proofs.lemmas.List.{length-append, length-take-le}
use Rattle.std.proofs.lemmas.Option.{slice_get-get_or}
use Rattle.std.proofs.lemmas.List.Sums.{sum_by-cons}
use Rattle.mux_history.specs.declared.name.Name.{Name}
use Rattle.mux_history.specs.declared.record.Record.{Record}
use Rattle.mux_history.specs.declared.kind.RecordKind.{RecordKind}
use Rattle.mux_history.specs.declared.kind.RecordKind.TheVariants.{Noted, Offered, Retried, Settled, SettledNack, LostOne}
use Rattle.mux_history.specs.declared.session.SessionId.{SessionId}
use Rattle.mux_history.specs.declared.session.SessionId.TheVariants.{Client}
use Rattle.mux_history.specs.Holders.{of_named}
use Rattle.mux_history.specs.Readings.{is_named, is_offered, is_retried}
use Rattle.mux_agree.specs.Agree.{answers, has, is_lost_one, is_settled, is_settled_nack, times}
use Rattle.mux_agree.specs.Walk.{Kept, all_records, client_records, place_at}
use Rattle.rolling_audit.specs.declared.fault.RecordFault.{RecordFault}
use Rattle.rolling_audit.specs.declared.fault.RecordFault.TheVariants as causes
use Rattle.rolling_audit.specs.declared.life.Life.{Life}
use Rattle.rolling_audit.specs.declared.trail.Trail.{Trail}
use Rattle.rolling_audit.specs.Counted.{one}
use Rattle.rolling_audit.specs.Faults.{HasCause, IsFaulty}
use Rattle.rolling_audit.specs.Histories.{behind, kept_of, longer}
use Rattle.rolling_audit.specs.Lives.{IsFull, IsLife, is_note}
use Rattle.rolling_audit.specs.Steps.{IsRefusedAt, LifeRefuses, LivesRefuse, Takes, TrailRefuses, with_trail}
use Rattle.rolling_audit.specs.Taken.{AreTaken, IsKept, IsTrail, again, forgotten, known, life_or, spent_by}
use Rattle.rolling_audit.proofs.Behinds.{kept_behind, kept_is, same_kept}
use Rattle.rolling_audit.proofs.Counts.{has_is}
use Rattle.rolling_audit.proofs.Taking.{own_trail}

-- BY ITS SESSION

pub refused_trail : (cause : RecordFault) (boot : ℕ) (id : SessionId) (s : Trail) (lives : Name → Option Life) (r : Record) → TrailRefuses cause id s r → IsRefusedAt cause boot id s lives r
refused_trail cause boot id s lives r by hs others used a h at =
    let mine = a.leads id s (own_trail others id s) in
    by boot h (all_records hs) (kept_is id hs h at) (subst (IsTrail boot s) (same_kept mine.0 h (sym mine.1 ∙ at)) mine.2)

-- BY WHAT IS KEPT OF ITS DISPATCH

-- a record is counted once
counted_once : (k : RecordKind) (b : Bool) (x1 x2 x3 x4 x5 x6 y : ℕ) → x1 + x2 + x3 + x4 + (x5 + x6) ≤ y →
    (cond (is_offered k && b) 1 0 + x1) + (cond (is_retried k && b) 1 0 + x2) + (cond (is_settled_nack k && b) 1 0 + x3) + (cond (is_settled k && b) 1 0 + x4)
    + ((cond (is_note k && b) 1 0 + x5) + (cond (is_lost_one k && b) 1 0 + x6)) ≤ cond b 1 0 + y
counted_once Offered b x1 x2 x3 x4 x5 x6 y h = omega (arith, h)
counted_once Retried b x1 x2 x3 x4 x5 x6 y h = omega (arith, h)
counted_once SettledNack b x1 x2 x3 x4 x5 x6 y h = omega (arith, h)
counted_once (Settled kind) b x1 x2 x3 x4 x5 x6 y h = omega (arith, h)
counted_once (Noted recalled) b x1 x2 x3 x4 x5 x6 y h = omega (arith, h)
counted_once LostOne b x1 x2 x3 x4 x5 x6 y h = omega (arith, h)
counted_once _ b x1 x2 x3 x4 x5 x6 y h = omega (arith, h)

all_counted : (n : Name) (rs : List Record) → times is_offered n rs + times is_retried n rs + times is_settled_nack n rs + times is_settled n rs + (times is_note n rs + times is_lost_one n rs)
    ≤ times (λ k. true) n rs
all_counted n [] = omega arith
all_counted n (r ∷ rs) =
    let now = counted_once r.kind (is_named n r.name) (times is_offered n rs) (times is_retried n rs) (times is_settled_nack n rs) (times is_settled n rs) (times is_note n rs) (times is_lost_one n rs)
    (times (λ k. true) n rs) (all_counted n rs) in
    let a = behind is_offered in
    let b = behind is_retried in
    let c = behind is_settled_nack in
    let d = behind is_settled in
    let e = behind is_note in
    let f = behind is_lost_one in
    let g = behind (λ k. true) in
    omega (arith, now, a, b, c, d, e, f, g)
  where
    behind : (p : RecordKind → Bool) → times p n (r ∷ rs) ≡ cond (p r.kind && is_named n r.name) 1 0 + times p n rs
    behind p = sum_by-cons (λ x. cond (p x.kind && is_named n x.name) 1 0) r rs

full_life : (n : Name) (clients all : List Record) (l : Life) → IsLife n clients all l → IsFull l → 255 ≤ times (λ k. true) n all
full_life n clients all l life full =
    let within = all_counted n all in
    let a = life.trace.offered in
    let b = life.trace.retried in
    let c = life.trace.nacked_back in
    let d = life.trace.settled in
    let e = life.noted in
    let f = life.lost in
    omega (arith, within, full, a, b, c, d, e, f)

module _ (n : Name) (clients all : List Record) (spent : Type 0) where
  answered_so : (o : Option Life) → IsKept n clients all spent o → (life_or o).answered ≡ true → has answers n all ≡ true
  answered_so o (known x life was) e = has_is answers n all ∙ ap (nat_lt 0) (life.answered ∙ ap one e)
  answered_so o (forgotten l life over s) e = absurd (cc e)
  answered_so o (again l cs rs life few was s) e =
      let one_is = life.answered ∙ ap one e in
      let within = few answers in
      has_is answers n all ∙ lt-ltb 0 (times answers n all) (omega (arith, one_is, within))

  full_so : (o : Option Life) → IsKept n clients all spent o → IsFull (life_or o) → 255 ≤ times (λ k. true) n all
  full_so o (known x life was) full = full_life n clients all (life_or x) life full
  full_so o (forgotten l life over s) full = absurd (omega (arith, full))
  full_so o (again l cs rs life few was s) full =
      let these = full_life n cs rs l life full in
      let within = few (λ k. true) in
      omega (arith, these, within)

pub refused_life : (cause : RecordFault) (boot : ℕ) (id : SessionId) (s : Trail) (lives : Name → Option Life) (r : Record) → LivesRefuse cause lives r → IsRefusedAt cause boot id s lives r
refused_life cause boot id s lives r (n, is, by) hs others used a h at = by_cause cause by
  where
    spent : Type 0
    spent = spent_by (with_trail others id s (Client n.client)) used n

    by_cause : (x : RecordFault) → LifeRefuses x (life_or (lives n)) r.kind → HasCause x boot h.mode id (reverse h.records) (all_records hs) r
    by_cause causes.AnsweredTwice l =
        let both = and_parts (answers r.kind) ((life_or (lives n)).answered) l in
        (λ i. both.0 i && of_named (λ m. has answers m (all_records hs)) (is i)) ∙ answered_so n (client_records hs) (all_records hs) spent (lives n) (a.dispatches n) both.1
    by_cause causes.Uncounted l = inl (n, is, full_so n (client_records hs) (all_records hs) spent (lives n) (a.dispatches n) l)
    by_cause causes.OtherBoot l = absurd l
    by_cause causes.Nameless l = absurd l
    by_cause causes.OtherClient l = absurd l
    by_cause causes.NotNext l = absurd l
    by_cause causes.AfterDrain l = absurd l
    by_cause causes.Lapsed l = absurd l
    by_cause causes.BadEpoch l = absurd l
    by_cause causes.TagOpen l = absurd l

-- of a call's result
pub refused_lives : {T : Type 0} (o : Result T RecordFault) (boot : ℕ) (id : SessionId) (s : Trail) (lives : Name → Option Life) (r : Record) →
    IfErr o (λ e. LivesRefuse e lives r) → IfErr o (λ e. IsRefusedAt e boot id s lives r)
refused_lives (Ok x) boot id s lives r h = tt
refused_lives (Err e) boot id s lives r h = refused_life e boot id s lives r h

pub named_refuses : {T : Type 0} (o : Result T RecordFault) (lives : Name → Option Life) (r : Record) (n : Name) (kind : RecordKind) → r.kind ≡ kind → r.name ≡ Some n →
    IfErr o (λ e. LifeRefuses e (life_or (lives n)) kind) → IfErr o (λ e. LivesRefuse e lives r)
named_refuses (Ok x) lives r n kind is_kind is h = tt
named_refuses (Err e) lives r n kind is_kind is h = (n, is, subst (LifeRefuses e (life_or (lives n))) (sym is_kind) h)

-- BEHIND OTHERS

pub faulty_at : (cause : RecordFault) (boot : ℕ) (id : SessionId) (s t : Trail) (lives more : Name → Option Life) (rs : List Record) (k : ℕ) (d : Record) → k < length rs →
    Takes boot id s lives (take k rs) t more → IsRefusedAt cause boot id t more (get_or rs k d) →
    (hs : List Kept) (others : SessionId → Option Trail) (used : ℕ → Bool) → AreTaken boot hs (with_trail others id s) lives used → IsFaulty boot hs id rs t.taken cause
faulty_at cause boot id s t lives more rs k d within takes refused hs others used a =
    record {
      own = mine.0;
      kept = mine.1;
      index = k;
      met = get_or rs k d;
      stands = slice_get-get_or rs k d within;
      placed = there.2.taken ∙ ap place_at (ap (λ (h : Kept). length h.records) it ∙ (length-append mine.0.records (take k rs) ∙ ap (λ x. length mine.0.records + x) (length-take-le k rs (omega (arith, within)))));
      faulty = refused (behind id (take k rs) hs) others used on (longer mine.0 (take k rs)) here;
    }
  where
    mine : (h : Kept) × (kept_of id hs ≡ Some h) × IsTrail boot s h
    mine = a.leads id s (own_trail others id s)

    on : AreTaken boot (behind id (take k rs) hs) (with_trail others id t) more used
    on = takes hs others used a

    there : (h : Kept) × (kept_of id (behind id (take k rs) hs) ≡ Some h) × IsTrail boot t h
    there = on.leads id t (own_trail others id t)

    here : kept_of id (behind id (take k rs) hs) ≡ Some (longer mine.0 (take k rs))
    here = kept_behind id (take k rs) hs mine.0 mine.1

    it : there.0 ≡ longer mine.0 (take k rs)
    it = same_kept there.0 (longer mine.0 (take k rs)) (sym there.1 ∙ here)
