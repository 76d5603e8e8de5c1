-- Where what is kept belongs to histories, and the dispatches that are left are fine, they bear each other out.
use Rattle.std.proofs.Common.{ℕ, suc, List, [], ◌∷◌, ◌++◌, ◌+◌, ◌≡◌, ◌<◌, ◌≤◌, ◌&&◌, ◌||◌, ◌⊎◌, inl, inr, Bool, true, false, refl, sym, ◌∙◌, ap, arith, subst, true≢false, Option, Some, None, length}
use Rattle.std.specs.Prelude.{All, ◌==◌, filter, sum_by, if◌then◌else◌, is_some, not, nat_eq, nat_lt, slice_get}
use Rattle.std.specs.Map.{lookup}
use Rattle.std.specs.Cmp.{IsEquivalence}
use Rattle.std.proofs.lemmas.Cmp.{nat_eq_equiv}
use Rattle.std.proofs.lemmas.Map.Entries.{lookup_from_place}
use Rattle.std.proofs.lemmas.Bool.{and_from, and_parts, eq-eqb, not-true, or_left, or_right}
use Rattle.std.proofs.lemmas.List.Folds.{list_all-append}
use Rattle.std.specs.List.{list_all}
use Rattle.indexmap.specs.IndexMap.{IsUnique}
use Rattle.rolling_audit.specs.declared.fault.Flaw.{Flaw}
use Rattle.std.proofs.lemmas.List.Elements.{All-nil, All-cons, All-head, All-tail, All-append}
use Rattle.std.specs.List.Sorted.{IsPermutation}
use Rattle.std.proofs.lemmas.List.Sorted.{All-permutation, IsPermutation-refl, sum_by-IsPermutation}
use Rattle.std.proofs.lemmas.List.Sums.{sum_by-cons}
use Rattle.mux_history.specs.declared.name.Name.{Name}
use Rattle.mux_history.specs.declared.record.Record.{Record}
use Rattle.mux_history.specs.declared.kind.RecordKind.{RecordKind}
use Rattle.mux_history.specs.declared.kind.RecordKind.TheVariants as kinds
use Rattle.mux_history.specs.declared.session.InitMode.{InitMode}
use Rattle.mux_history.specs.declared.session.SessionId.{SessionId}
use Rattle.mux_history.specs.declared.session.SessionId.TheVariants.{Client}
use Rattle.mux_history.specs.Holders.{of_named}
use Rattle.mux_history.specs.Readings.{is_named, is_offered, is_retried}
use Rattle.mux_agree.specs.Agree.{answers, has, is_answered_twice, is_failed, is_settled, times}
use Rattle.mux_agree.specs.Walk.{AreFaultless, BearOut, IsFaultless, Kept, all_records, client_records, is_client, stops, stops_in}
use Rattle.mux_agree.proofs.Counts.{times-append}
use Rattle.mux_agree.proofs.Searches.{has_append}
use Rattle.rolling_audit.specs.Counted.{IsBorne, IsCounted, end_by, faultless_by, one}
use Rattle.rolling_audit.specs.Recalls.{AreEnded, gives_recall, has_end, is_ended}
use Rattle.rolling_audit.specs.declared.trace.Trace.{Trace}
use Rattle.rolling_audit.proofs.Counts.{bears_kind, has_is, own_name}
use Rattle.rolling_audit.specs.declared.life.Life.{Life}
use Rattle.rolling_audit.specs.declared.lives.Lives.{Lives}
use Rattle.rolling_audit.specs.declared.trail.Trail.{Trail}
use Rattle.rolling_audit.specs.Histories.{AllOwn, AreOwn, lacks_name, needs_name}
use Rattle.rolling_audit.specs.Lives.{IsFine, IsLife, IsOver, is_ended_life, is_passed, lacks_end, no_life}
use Rattle.rolling_audit.specs.Taken.{AreFine, AreTaken, EachPasses, FailsAt, HasFlaw, HasFlawAt, IsKept, PassesAt, SomeFails, again, forgotten, known, life_of, pair_eq, spent_by}
use Rattle.rolling_audit.proofs.Keeping.{no_flaw, pair_own}
use Rattle.rolling_audit.proofs.Counting.{relife}
use Rattle.rolling_audit.proofs.Taking.{named_so, same_life}

-- ONE RECORD

unflawed : (came b : Bool) → (came && not b) ≡ false → came ≡ true → b ≡ true
unflawed true true e c = refl
unflawed true false e c = absurd (cc)
unflawed false b e c = absurd (cc)

-- a record of a kind that came, among the records of a dispatch that is fine
module _ (l : Life) (fine : IsFine l) where
  faultless : (k : RecordKind) → (is_offered k ≡ true → nat_lt 0 l.trace.offered ≡ true) → (is_retried k ≡ true → nat_lt 0 l.trace.retried ≡ true) →
      (is_passed k ≡ true → l.passed ≡ true) → (is_failed k ≡ true → l.failed ≡ true) → faultless_by l.trace k ≡ true
  faultless kinds.Offered o r p f = unflawed (nat_lt 0 l.trace.offered) (faultless_by l.trace kinds.Offered) fine.offered (o refl)
  faultless kinds.Retried o r p f = unflawed (nat_lt 0 l.trace.retried) (faultless_by l.trace kinds.Retried) fine.retried (r refl)
  faultless kinds.Passed o r p f = unflawed l.passed (faultless_by l.trace kinds.Passed) fine.passed (p refl)
  faultless kinds.Failed o r p f = unflawed l.failed (faultless_by l.trace kinds.Failed) fine.failed (f refl)
  faultless _ o r p f = refl

-- what is known of each name in the end
abbrev IsTold : (Life → Type 0) → Name → (clients all : List Record) → Type 0
IsTold P n clients all = (l : Life) × IsLife n clients all l × P l

module _ (clients all : List Record) (told : (n : Name) → IsTold IsFine n clients all) (r : Record) (named : lacks_name r ≡ false)
    (met : (p : RecordKind → Bool) (n : Name) → (p r.kind && is_named n r.name) ≡ true → has p n all ≡ true) where
  met_of : (n : Name) → r.name ≡ Some n → (p : RecordKind → Bool) → p r.kind ≡ true → has p n all ≡ true
  met_of n is p e = met p n (and_from (p r.kind) (is_named n r.name) e (ap (is_named n) is ∙ own_name n))

  counted : (n : Name) (p : RecordKind → Bool) (m : ℕ) → times p n all ≡ m → has p n all ≡ true → nat_lt 0 m ≡ true
  counted n p m is h = ap (nat_lt 0) (sym is) ∙ (sym (has_is p n all) ∙ h)

  borne_named : (n : Name) → r.name ≡ Some n → IsBorne clients all r
  borne_named n is =
      let l = (told n).0 in
      let life = (told n).1 in
      let fine = (told n).2 in
      bears_kind l.trace r.kind
      (faultless l fine r.kind (λ e. counted n is_offered l.trace.offered life.trace.offered (met_of n is is_offered e))
      (λ e. counted n is_retried l.trace.retried life.trace.retried (met_of n is is_retried e)) (λ e. sym life.passed ∙ met_of n is is_passed e)
      (λ e. sym life.failed ∙ met_of n is is_failed e))
      n clients all r refl is life.trace

  -- one that names none
  bare : (k : RecordKind) → (needs_name k && true) ≡ false → (o : Option Name) → o ≡ None → r.kind ≡ k → r.name ≡ o → IsBorne clients all r
  bare kinds.Offered e o none is_kind is = absurd (cc)
  bare kinds.Passed e o none is_kind is = absurd (cc)
  bare kinds.Failed e o none is_kind is = absurd (cc)
  bare _ e o none is_kind is = rw is_kind (rw is (rw none (record { sent_once = refl; founded = refl; not_nacked = refl; lost = refl })))

  borne : IsBorne clients all r
  borne = by_name r.name refl
    where
      by_name : (o : Option Name) → r.name ≡ o → IsBorne clients all r
      by_name None is = bare r.kind (sym (ap (λ o. needs_name r.kind && not (is_some o)) is) ∙ named) None refl refl is
      by_name (Some n) is = borne_named n is

-- ANSWERED ONCE

none_left : (w x : ℕ) → w + (1 + x) ≤ 1 → w ≡ 0
none_left w x h = omega (arith, h)

module _ (walked later : List Record) (r : Record) (once : (n : Name) → times answers n walked + times answers n (r ∷ later) ≤ 1) where
  unmet : (n : Name) → r.name ≡ Some n → answers r.kind ≡ true → has answers n walked ≡ false
  unmet n is e =
      let cons = sum_by-cons (λ x. if answers x.kind && is_named n x.name then 1 else 0) r later in
      let own : (answers r.kind && is_named n r.name) ≡ true = (λ i. e i && (ap (is_named n) is ∙ own_name n) i) in
      let counts : times answers n (r ∷ later) ≡ 1 + times answers n later = cons ∙ ap (λ b. (if b then 1 else 0) + times answers n later) own in
      let bound = once n in
      has_is answers n walked ∙ ap (nat_lt 0) (none_left (times answers n walked) (times answers n later) (omega (arith, counts, bound)))

  pub answered_once : is_answered_twice walked r ≡ false
  answered_once = by_tests (answers r.kind) refl r.name refl
    where
      by_tests : (b : Bool) → answers r.kind ≡ b → (o : Option Name) → r.name ≡ o → (b && of_named (λ n. has answers n walked) o) ≡ false
      by_tests false e o is = refl
      by_tests true e None is = refl
      by_tests true e (Some n) is = unmet n is e

-- ALL RECORDS

module _ (clients all : List Record) (told : (n : Name) → IsTold IsFine n clients all) where
  faultless_in : (earlier : List Record) (mode : InitMode) (id : SessionId) (past later : List Record) → AreOwn mode id past later →
      ((p : RecordKind → Bool) (n : Name) → has p n later ≡ true → has p n all ≡ true) →
      ((n : Name) → times answers n (past ++ earlier) + times answers n later ≤ 1) → AreFaultless clients all (stops_in earlier id mode past later)
  faultless_in earlier mode id past [] own among once = All-nil (IsFaultless clients all)
  faultless_in earlier mode id past (r ∷ later) own among once =
      let b = borne clients all told r own.0.named (λ p n e. among p n (or_left (p r.kind && is_named n r.name) (has p n later) e)) in
      All-cons (IsFaultless clients all) _ (stops_in earlier id mode (r ∷ past) later)
      (record {
        sent_once = b.sent_once;
        answered_once = answered_once (past ++ earlier) later r once;
        founded = b.founded;
        not_nacked = b.not_nacked;
        lost = b.lost;
        on_its_tag = own.0.right.on_its_tag;
        before_drain = own.0.right.before_drain;
        on_its_lease = own.0.right.on_its_lease;
        leads_on = own.0.right.leads_on;
      })
      (faultless_in earlier mode id (r ∷ past) later own.1 (λ p n e. among p n (or_right (p r.kind && is_named n r.name) (has p n later) e)) further)
    where
      further : (n : Name) → times answers n ((r ∷ past) ++ earlier) + times answers n later ≤ 1
      further n =
          let one_here = sum_by-cons (λ x. if answers x.kind && is_named n x.name then 1 else 0) r later in
          let one_there = sum_by-cons (λ x. if answers x.kind && is_named n x.name then 1 else 0) r (past ++ earlier) in
          let bound = once n in
          omega (arith, one_here, one_there, bound)

  faultless_all : (earlier : List Record) (hs : List Kept) → AllOwn hs → ((p : RecordKind → Bool) (n : Name) → has p n (all_records hs) ≡ true → has p n all ≡ true) →
      ((n : Name) → times answers n earlier + times answers n (all_records hs) ≤ 1) → AreFaultless clients all (stops earlier hs)
  faultless_all earlier [] own among once = All-nil (IsFaultless clients all)
  faultless_all earlier (h ∷ hs) own among once =
      All-append (IsFaultless clients all) (stops_in earlier h.session h.mode [] h.records) (stops (earlier ++ h.records) hs)
      (faultless_in earlier h.mode h.session [] h.records own.0 (λ p n e. among p n (has_append p n h.records (all_records hs) ∙ or_left (has p n h.records) (has p n (all_records hs)) e)) here)
      (faultless_all (earlier ++ h.records) hs own.1 (λ p n e. among p n (has_append p n h.records (all_records hs) ∙ or_right (has p n h.records) (has p n (all_records hs)) e)) there)
    where
      here : (n : Name) → times answers n earlier + times answers n h.records ≤ 1
      here n =
          let both = times-append answers n h.records (all_records hs) in
          let bound = once n in
          omega (arith, both, bound)

      there : (n : Name) → times answers n (earlier ++ h.records) + times answers n (all_records hs) ≤ 1
      there n =
          let both = times-append answers n h.records (all_records hs) in
          let more = times-append answers n earlier h.records in
          let bound = once n in
          omega (arith, both, more, bound)

-- THE ORDER OF HISTORIES

times_sum : (p : RecordKind → Bool) (n : Name) (hs : List Kept) → times p n (all_records hs) ≡ sum_by (λ h. times p n h.records) hs
times_sum p n [] = refl
times_sum p n (h ∷ hs) =
    times-append p n h.records (all_records hs)
    ∙ (ap (λ x. times p n h.records + x) (times_sum p n hs) ∙ sym (sum_by-cons (λ x. times p n x.records) h hs))

abbrev of_client : (RecordKind → Bool) → Name → Kept → ℕ
of_client p n h = if is_client h.session then times p n h.records else 0

clients_sum : (p : RecordKind → Bool) (n : Name) (hs : List Kept) → times p n (client_records hs) ≡ sum_by (of_client p n) hs
clients_sum p n [] = refl
clients_sum p n (h ∷ hs) = by_side (is_client h.session) (clients_sum p n hs) ∙ sym (sum_by-cons (of_client p n) h hs)
  where
    by_side : (b : Bool) → times p n (client_records hs) ≡ sum_by (of_client p n) hs →
        times p n (all_records (if b then h ∷ filter (λ x. is_client x.session) hs else filter (λ x. is_client x.session) hs))
        ≡ (if b then times p n h.records else 0) + sum_by (of_client p n) hs
    by_side true further = times-append p n h.records (client_records hs) ∙ ap (λ x. times p n h.records + x) further
    by_side false further = omega (arith, further)

-- in any order
pub all_so : (hs ks : List Kept) → IsPermutation hs ks → (n : Name) (p : RecordKind → Bool) → times p n (all_records ks) ≡ times p n (all_records hs)
all_so hs ks order n p = times_sum p n ks ∙ (sum_by-IsPermutation (λ h. times p n h.records) hs ks order ∙ sym (times_sum p n hs))

pub clients_so : (hs ks : List Kept) → IsPermutation hs ks → (n : Name) (p : RecordKind → Bool) → times p n (client_records ks) ≡ times p n (client_records hs)
clients_so hs ks order n p = clients_sum p n ks ∙ (sum_by-IsPermutation (of_client p n) hs ks order ∙ sym (clients_sum p n hs))

pub life_so : (hs ks : List Kept) → IsPermutation hs ks → (n : Name) (l : Life) → IsLife n (client_records hs) (all_records hs) l → IsLife n (client_records ks) (all_records ks) l
life_so hs ks order n l life = relife n (client_records hs) (all_records hs) (client_records ks) (all_records ks) l (clients_so hs ks order n) (all_so hs ks order n) life

abbrev IsOwnHistory : Kept → Type 0
IsOwnHistory h = AreOwn h.mode h.session [] h.records

own_each : (hs : List Kept) → AllOwn hs → All IsOwnHistory hs
own_each [] own = All-nil IsOwnHistory
own_each (h ∷ hs) own = All-cons IsOwnHistory h hs own.0 (own_each hs own.1)

each_own : (hs : List Kept) → All IsOwnHistory hs → AllOwn hs
each_own [] all = tt
each_own (h ∷ hs) all = (All-head IsOwnHistory h hs all, each_own hs (All-tail IsOwnHistory h hs all))

-- RECALLS

-- the end of a recall, by the counts
end_is : (n : Name) (clients all : List Record) (d : Trace) → IsCounted n clients all d → has_end all n ≡ end_by d
end_is n clients all d c = rw c.recalled (rw (has_is is_settled n all) (rw c.settled (rw c.missing (rw c.retried (rw c.nacked_back refl)))))

recall_named : (k : RecordKind) → gives_recall k ≡ true → needs_name k ≡ true
recall_named kinds.Offered e = refl
recall_named kinds.Passed e = refl
recall_named kinds.Failed e = refl
recall_named kinds.Took e = refl
recall_named kinds.TookDrained e = refl
recall_named _ e = e

module _ (all : List Record) (ended : (n : Name) → has gives_recall n all ≡ true → has_end all n ≡ true) where
  ended_one : (r : Record) → lacks_name r ≡ false → ((n : Name) → (gives_recall r.kind && is_named n r.name) ≡ true → has gives_recall n all ≡ true) → is_ended all r ≡ true
  ended_one r named among = by_tests (gives_recall r.kind) refl r.name refl
    where
      by_tests : (b : Bool) → gives_recall r.kind ≡ b → (o : Option Name) → r.name ≡ o → (not b || of_named (has_end all) o) ≡ true
      by_tests false e o is = refl
      by_tests true e None is =
          let lacks : lacks_name r ≡ true = and_from (needs_name r.kind) (not (is_some r.name)) (recall_named r.kind e) (ap (λ o. not (is_some o)) is) in
          absurd (true≢false (sym lacks ∙ named))
      by_tests true e (Some n) is = ended n (among n (and_from (gives_recall r.kind) (is_named n r.name) e (ap (is_named n) is ∙ own_name n)))

  ended_in : (mode : InitMode) (id : SessionId) (past later : List Record) → AreOwn mode id past later →
      ((n : Name) → has gives_recall n later ≡ true → has gives_recall n all ≡ true) → list_all (is_ended all) later ≡ true
  ended_in mode id past [] own among = refl
  ended_in mode id past (r ∷ later) own among =
      and_from (is_ended all r) (list_all (is_ended all) later)
      (ended_one r own.0.named (λ n e. among n (or_left (gives_recall r.kind && is_named n r.name) (has gives_recall n later) e)))
      (ended_in mode id (r ∷ past) later own.1 (λ n e. among n (or_right (gives_recall r.kind && is_named n r.name) (has gives_recall n later) e)))

  ended_all : (hs : List Kept) → AllOwn hs → ((n : Name) → has gives_recall n (all_records hs) ≡ true → has gives_recall n all ≡ true) → list_all (is_ended all) (all_records hs) ≡ true
  ended_all [] own among = refl
  ended_all (h ∷ hs) own among =
      list_all-append (is_ended all) h.records (all_records hs)
      ∙ and_from (list_all (is_ended all) h.records) (list_all (is_ended all) (all_records hs))
      (ended_in h.mode h.session [] h.records own.0 (λ n e. among n (has_append gives_recall n h.records (all_records hs) ∙ or_left (has gives_recall n h.records) (has gives_recall n (all_records hs)) e)))
      (ended_all hs own.1 (λ n e. among n (has_append gives_recall n h.records (all_records hs) ∙ or_right (has gives_recall n h.records) (has gives_recall n (all_records hs)) e)))

-- a recall of the name that lacks its end
unended : (all : List Record) (n : Name) → has_end all n ≡ false → (rs : List Record) → has gives_recall n rs ≡ true → list_all (is_ended all) rs ≡ true → ⊥
unended all n none [] met ended = absurd (cc met)
unended all n none (r ∷ rs) met ended =
    let parts = and_parts (is_ended all r) (list_all (is_ended all) rs) ended in
    by_test (gives_recall r.kind && is_named n r.name) refl met parts.0 (λ h. unended all n none rs h parts.1)
  where
    by_test : (b : Bool) → (gives_recall r.kind && is_named n r.name) ≡ b → (b || has gives_recall n rs) ≡ true → is_ended all r ≡ true → (has gives_recall n rs ≡ true → ⊥) → ⊥
    by_test true e met own later =
        let here = and_parts (gives_recall r.kind) (is_named n r.name) e in
        true≢false (sym own ∙ (ap (λ b. not b || of_named (has_end all) r.name) here.0 ∙ (ap (of_named (has_end all)) (named_so n r.name here.1) ∙ none)))
    by_test false e met own later = later met

-- WHAT IS TOLD IN THE END

module _ (boot : ℕ) (hs : List Kept) (trails : SessionId → Option Trail) (lives : Name → Option Life) (used : ℕ → Bool) (a : AreTaken boot hs trails lives used) where
  -- of a life that is kept, and whose dispatch a client took
  pub life_is : (n : Name) (l : Life) → lives n ≡ Some l → l.trace.taken ≡ true → IsLife n (client_records hs) (all_records hs) l
  life_is n l at taken = by_kept (lives n) at (a.dispatches n)
    where
      by_kept : (o : Option Life) → o ≡ Some l → IsKept n (client_records hs) (all_records hs) (spent_by (trails (Client n.client)) used n) o → IsLife n (client_records hs) (all_records hs) l
      by_kept None is kept = absurd (cc)
      by_kept (Some m) is (known x life was) = subst (IsLife n (client_records hs) (all_records hs)) (same_life m l is) life
      by_kept (Some m) is (again x cs rs life few was spent) = absurd (true≢false (sym taken ∙ (ap (λ (x : Life). x.trace.taken) (sym (same_life m l is)) ∙ was)))

  -- what holds of each life in the end
  module _ (P : Life → Type 0) (bare : P no_life) (over : (l : Life) → IsOver l → P l) (left : (n : Name) (l : Life) → lives n ≡ Some l → (l.trace.taken ≡ true) × P l) where
    all_told : (n : Name) → IsTold P n (client_records hs) (all_records hs)
    all_told n = by_kept (lives n) refl (a.dispatches n)
      where
        by_kept : (o : Option Life) → lives n ≡ o → IsKept n (client_records hs) (all_records hs) (spent_by (trails (Client n.client)) used n) o → IsTold P n (client_records hs) (all_records hs)
        by_kept None at (known x life was) = (no_life, life, bare)
        by_kept None at (forgotten l life is_over spent) = (l, life, over l is_over)
        by_kept (Some l) at kept = (l, life_is n l at (left n l at).0, (left n l at).1)

    -- in any order
    all_told_so : (ks : List Kept) → IsPermutation hs ks → (n : Name) → IsTold P n (client_records ks) (all_records ks)
    all_told_so ks order n = let told = all_told n in (told.0, life_so hs ks order n told.0 told.1, told.2)

  module _ (ks : List Kept) (order : IsPermutation hs ks) where
    own_so : AllOwn ks
    own_so = each_own ks (All-permutation IsOwnHistory hs ks order (own_each hs a.own))

    pub bears_out_so : AreFine lives → BearOut ks
    bears_out_so fine = faultless_all (client_records ks) (all_records ks) told [] ks own_so (λ p n e. e) once
      where
        told : (n : Name) → IsTold IsFine n (client_records ks) (all_records ks)
        told = all_told_so IsFine (record { offered = refl; retried = refl; passed = refl; failed = refl }) (λ l over. over.fine) (λ n l at. no_flaw l (fine n l at)) ks order

        at_most : (b : Bool) (m : ℕ) → m ≡ one b → 0 + m ≤ 1
        at_most true m e = omega (arith, e)
        at_most false m e = omega (arith, e)

        once : (n : Name) → times answers n [] + times answers n (all_records ks) ≤ 1
        once n = let life = (told n).1 in at_most (told n).0.answered (times answers n (all_records ks)) life.answered

    pub recalls_end_so : EachPasses is_ended_life lives → AreEnded (all_records ks)
    recalls_end_so each = ended_all (all_records ks) ended ks own_so (λ n e. e)
      where
        left : (n : Name) (l : Life) → lives n ≡ Some l → (l.trace.taken ≡ true) × (lacks_end l ≡ false)
        left n l at = let parts = and_parts l.trace.taken (not (lacks_end l)) (each n l at) in (parts.0, not-true (lacks_end l) parts.1)

        told : (n : Name) → IsTold (λ l. lacks_end l ≡ false) n (client_records ks) (all_records ks)
        told = all_told_so (λ l. lacks_end l ≡ false) refl (λ l over. over.ended) left ks order

        ended : (n : Name) → has gives_recall n (all_records ks) ≡ true → has_end (all_records ks) n ≡ true
        ended n met =
            let l = (told n).0 in
            let life = (told n).1 in
            end_is n (client_records ks) (all_records ks) l.trace life.trace ∙ unflawed l.gave_recall (end_by l.trace) (told n).2 (sym life.gave_recall ∙ met)

  pub bears_out : AreFine lives → BearOut hs
  bears_out fine = bears_out_so hs (IsPermutation-refl hs) fine

  -- a recall that lacks its end
  pub recall_lacks : AreFine lives → SomeFails is_ended_life lives → AreEnded (all_records hs) → ⊥
  recall_lacks fine some ended =
      let n = some.0 in
      let l = some.1.0 in
      let at = some.1.1 in
      let taken : l.trace.taken ≡ true = (no_flaw l (fine n l at)).0 in
      let lacks = lacking l.trace.taken l.gave_recall (end_by l.trace) taken some.1.2 in
      let life = life_is n l at taken in
      unended (all_records hs) n (end_is n (client_records hs) (all_records hs) l.trace life.trace ∙ lacks.1) (all_records hs) (life.gave_recall ∙ lacks.0) ended
    where
      lacking : (t g e : Bool) → t ≡ true → (t && not (g && not e)) ≡ false → (g ≡ true) × (e ≡ false)
      lacking true true false h f = (refl, refl)
      lacking true true true h f = absurd (cc)
      lacking true false e h f = absurd (cc)
      lacking false g e h f = absurd (cc)

-- THE DISPATCHES THAT ARE LEFT

found_passes : (test : Life → Bool) (key : (ℕ × ℕ) → Bool) (es : List ((ℕ × ℕ) × Life)) → ((k : ℕ) → k < length es → PassesAt test es k) → (l : Life) → lookup key es ≡ Some l → test l ≡ true
found_passes test key [] passes l at = absurd (cc)
found_passes test key (e ∷ es) passes l at = by_test (key e.0) at (found_passes test key es (λ k within x is. passes (suc k) (omega (arith, within)) x is) l)
  where
    by_test : (b : Bool) → (if b then Some e.1 else lookup key es) ≡ Some l → (lookup key es ≡ Some l → test l ≡ true) → test l ≡ true
    by_test true is further = ap test (sym (same_life e.1 l is)) ∙ passes 0 (omega arith) e refl
    by_test false is further = further is

pub each_passes : (test : Life → Bool) (lives : Lives) → ((k : ℕ) → k < length lives.lives.entries → PassesAt test lives.lives.entries k) → EachPasses test (life_of lives)
each_passes test lives passes n l at = by_boot (n.boot == lives.boot) at
  where
    by_boot : (b : Bool) → (if b then lookup (pair_eq (n.client, n.seq)) lives.lives.entries else None) ≡ Some l → test l ≡ true
    by_boot true is = found_passes test (pair_eq (n.client, n.seq)) lives.lives.entries passes l is
    by_boot false is = absurd (cc)

-- one place further, and behind the last
pub passes_next : (test : Life → Bool) (es : List ((ℕ × ℕ) × Life)) (place : ℕ) → ((k : ℕ) → k < place → PassesAt test es k) → PassesAt test es place →
    (k : ℕ) → k < place + 1 → PassesAt test es k
passes_next test es place before here k within =
    elim (below_next k place within) as (λ _. PassesAt test es k) [ inl low ↦ before k low | inr same ↦ subst (PassesAt test es) same here ]
  where
    below_next : (k m : ℕ) → k < m + 1 → (k < m) ⊎ (m ≡ k)
    below_next k m h = grind arith

pub each_passed : (test : Life → Bool) (lives : Lives) (end place : ℕ) → end ≡ length lives.lives.entries → end ≤ place →
    ((k : ℕ) → k < place → PassesAt test lives.lives.entries k) → EachPasses test (life_of lives)
each_passed test lives end place len behind passes = each_passes test lives (λ k within. passes k (reached k (length lives.lives.entries) within len))
  where
    reached : (k n : ℕ) → k < n → end ≡ n → k < place
    reached k n a b = omega (arith, a, b, behind)

pair_equiv : IsEquivalence pair_eq
pair_equiv =
    record {
      refl = λ x. pair_own x.0 x.1;
      symm = λ x y. λ i. nat_eq_equiv.symm x.0 y.0 i && nat_eq_equiv.symm x.1 y.1 i;
      congr = λ x y z e. let p = and_parts (nat_eq x.0 y.0) (nat_eq x.1 y.1) e in λ i. nat_eq_equiv.congr x.0 y.0 z.0 p.0 i && nat_eq_equiv.congr x.1 y.1 z.1 p.1 i;
    }

-- the one that stands at a place is that of its name
life_at : (lives : Lives) (k : ℕ) (n : Name) (l : Life) → IsUnique pair_eq lives.lives → slice_get lives.lives.entries k ≡ Some ((n.client, n.seq), l) → n.boot ≡ lives.boot →
    life_of lives n ≡ Some l
life_at lives k n l unique at boot =
    ap (λ b. if b then lookup (pair_eq (n.client, n.seq)) lives.lives.entries else None) (eq-eqb n.boot lives.boot boot)
    ∙ lookup_from_place pair_equiv lives.lives.entries k (n.client, n.seq) l unique at

pub flaw_at : (lives : Lives) (k : ℕ) (n : Name) (f : Flaw) → IsUnique pair_eq lives.lives → HasFlawAt lives k n f → HasFlaw lives n f
flaw_at lives k n f unique at = (at.0, life_at lives k n at.0 unique at.1 at.2, at.3)

pub some_fails : (test : Life → Bool) (lives : Lives) (k : ℕ) → IsUnique pair_eq lives.lives → FailsAt test lives.lives.entries k → SomeFails test (life_of lives)
some_fails test lives k unique at =
    let n : Name = record { boot = lives.boot; client = at.0.0.0; seq = at.0.0.1 } in
    (n, (at.0.1, life_at lives k n at.0.1 unique at.1 refl, at.2))
