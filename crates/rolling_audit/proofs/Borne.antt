-- Records of histories that bear each other out.
use Rattle.std.proofs.Common.{ℕ, List, [], ◌∷◌, ◌++◌, ◌+◌, ◌≡◌, ◌≤◌, ◌&&◌, ◌||◌, Bool, true, false, append_assoc, arith, cond, drop, inl, inr, length, refl, sym, take, ◌∙◌, ap, subst, true≢false, Option, Some, None}
use Rattle.std.specs.Prelude.{All, nat_lt, reverse, is_some, not, unwrap_or}
use Rattle.std.proofs.Math.Seq.{drop-append_seam, take-append_seam}
use Rattle.std.proofs.lemmas.Bool.{and_parts, ltb-false, or_parts}
use Rattle.std.proofs.lemmas.List.{append-nil, reverse-append, take-append-drop}
use Rattle.std.proofs.lemmas.List.Elements.{All-drop, All-head, All-tail, All-take}
use Rattle.std.proofs.lemmas.List.Sums.{sum_by-cons}
use Rattle.std.proofs.lemmas.Option.{get_or_from_slice_get, slice_get_within}
use Rattle.mux_history.specs.declared.name.Name.{Name}
use Rattle.mux_history.specs.declared.record.Record.{Record}
use Rattle.mux_history.specs.declared.kind.RecordKind.{RecordKind}
use Rattle.mux_history.specs.declared.kind.RecordKind.TheVariants as kinds
use Rattle.mux_history.specs.declared.session.InitMode.{InitMode}
use Rattle.mux_history.specs.declared.session.SessionId.{SessionId}
use Rattle.mux_history.specs.Holders.{holds_own, name_on, of_named}
use Rattle.mux_history.specs.Readings.{begins, is_named, is_offered, is_retried}
use Rattle.mux_agree.specs.Agree.{answers, has, frees, is_answered_twice, is_failed, is_never_sent, is_tag_fault, is_unfounded, times}
use Rattle.mux_agree.specs.Walk.{BearOut, IsFaultless, Kept, Stop, all_records, client_records, stops, stops_in}
use Rattle.mux_agree.proofs.Counts.{times-append}
use Rattle.mux_agree.proofs.Walks.{drop_more}
use Rattle.mux_agree.proofs.Searches.{has_append}
use Rattle.rolling_audit.specs.declared.fault.Flaw.{Flaw}
use Rattle.rolling_audit.specs.declared.fault.Flaw.TheVariants as flaws
use Rattle.rolling_audit.specs.declared.fault.RollingFault.TheVariants as faults
use Rattle.rolling_audit.specs.declared.life.Life.{Life}
use Rattle.rolling_audit.specs.Counted.{faultless_by}
use Rattle.rolling_audit.specs.Lives.{IsFine, IsLife, flaw_of, is_passed}
use Rattle.rolling_audit.specs.Slots.{used_in}
use Rattle.rolling_audit.specs.Steps.{CloseRightly}
use Rattle.rolling_audit.specs.Taken.{life_of, trail_of}
use Rattle.rolling_audit.specs.declared.fault.RecordFault.{RecordFault}
use Rattle.rolling_audit.specs.declared.fault.RecordFault.TheVariants as causes
use Rattle.rolling_audit.specs.Faults.{AccuseRightly, AreOf, HasCause, IsBegun, IsFaulty, Leaves, may_lack_name}
use Rattle.rolling_audit.specs.Histories.{behind, lacks_name, longer, needs_name}
use Rattle.rolling_audit.proofs.Behinds.{kept_behind, kept_is, times_behind}
use Rattle.rolling_audit.proofs.Closing.{answered_once, life_is, life_so}
use Rattle.rolling_audit.proofs.Counts.{faultless_so, has_is}
use Rattle.rolling_audit.proofs.Taking.{named_so}

all_left : {X : Type 0} (P : X → Type 0) (xs ys : List X) → All P (xs ++ ys) → All P xs
all_left P xs ys all = subst (All P) (take-append_seam xs ys) (All-take P (length xs) (xs ++ ys) all)

all_right : {X : Type 0} (P : X → Type 0) (xs ys : List X) → All P (xs ++ ys) → All P ys
all_right P xs ys all = subst (All P) (drop-append_seam xs ys) (All-drop P (length xs) (xs ++ ys) all)

module _ (P : Stop → Type 0) where
  -- at a record of a session
  at_record : (earlier : List Record) (id : SessionId) (mode : InitMode) (xs : List Record) (past : List Record) (r : Record) (later : List Record) →
      All P (stops_in earlier id mode past (xs ++ r ∷ later)) → P (record { session = id; mode = mode; earlier = earlier; past = reverse xs ++ past; entry = r })
  at_record earlier id mode [] past r later all = All-head P _ (stops_in earlier id mode (r ∷ past) later) all
  at_record earlier id mode (x ∷ xs) past r later all =
      subst (λ l. P (record { session = id; mode = mode; earlier = earlier; past = l; entry = r }))
      (sym (ap (λ l. l ++ past) (reverse-append (x ∷ []) xs) ∙ append_assoc (reverse xs) (x ∷ []) past))
      (at_record earlier id mode xs (x ∷ past) r later (All-tail P _ (stops_in earlier id mode (x ∷ past) (xs ++ r ∷ later)) all))

  -- of a history among others
  at_history : (earlier : List Record) (before : List Kept) (h : Kept) (after : List Kept) → All P (stops earlier (before ++ h ∷ after)) →
      (e : List Record) × All P (stops_in e h.session h.mode [] h.records)
  at_history earlier [] h after all = (earlier, all_left P (stops_in earlier h.session h.mode [] h.records) (stops (earlier ++ h.records) after) all)
  at_history earlier (b ∷ before) h after all =
      at_history (earlier ++ b.records) before h after
      (all_right P (stops_in earlier b.session b.mode [] b.records) (stops (earlier ++ b.records) (before ++ h ∷ after)) all)

-- ANSWERED ONCE

counted : (n : Name) (r : Record) (rs : List Record) → times answers n (r ∷ rs) ≡ cond (answers r.kind && is_named n r.name) 1 0 + times answers n rs
counted n r rs = sum_by-cons _ r rs

one_more : (n : Name) (r : Record) (walked : List Record) → is_answered_twice walked r ≡ false → times answers n walked ≤ 1 → times answers n (r ∷ walked) ≤ 1
one_more n r walked new most = by_test (answers r.kind && is_named n r.name) refl (counted n r walked)
  where
    by_test : (b : Bool) → (answers r.kind && is_named n r.name) ≡ b → times answers n (r ∷ walked) ≡ cond b 1 0 + times answers n walked → times answers n (r ∷ walked) ≤ 1
    by_test false e more = omega (arith, most, more)
    by_test true e more =
        let both = and_parts (answers r.kind) (is_named n r.name) e in
        let none = sym (λ i. both.0 i && of_named (λ m. has answers m walked) (named_so n r.name both.1 i)) ∙ new in
        let zero = ltb-false 0 (times answers n walked) (sym (has_is answers n walked) ∙ none) in
        omega (arith, more, zero)

module _ (P : Stop → Type 0) (new : (s : Stop) → P s → is_answered_twice (s.past ++ s.earlier) s.entry ≡ false) (n : Name) where
  once_in : (earlier : List Record) (id : SessionId) (mode : InitMode) (past later : List Record) → All P (stops_in earlier id mode past later) → times answers n (past ++ earlier) ≤ 1 →
      times answers n (past ++ earlier) + times answers n later ≤ 1
  once_in earlier id mode past [] all most = omega (arith, most)
  once_in earlier id mode past (r ∷ later) all most =
      let here = new _ (All-head P _ (stops_in earlier id mode (r ∷ past) later) all) in
      let one = counted n r later in
      let more = counted n r (past ++ earlier) in
      let rest = once_in earlier id mode (r ∷ past) later (All-tail P _ (stops_in earlier id mode (r ∷ past) later) all) (one_more n r (past ++ earlier) here most) in
      omega (arith, one, more, rest)

  once : (earlier : List Record) (hs : List Kept) → All P (stops earlier hs) → times answers n earlier ≤ 1 → times answers n earlier + times answers n (all_records hs) ≤ 1
  once earlier [] all most = omega (arith, most)
  once earlier (h ∷ hs) all most =
      let here = once_in earlier h.session h.mode [] h.records (all_left P (stops_in earlier h.session h.mode [] h.records) (stops (earlier ++ h.records) hs) all) most in
      let one = times-append answers n earlier h.records in
      let both = times-append answers n h.records (all_records hs) in
      let rest = once (earlier ++ h.records) hs (all_right P (stops_in earlier h.session h.mode [] h.records) (stops (earlier ++ h.records) hs) all) (omega (arith, here, one)) in
      omega (arith, one, both, rest)

-- NAMES

-- of a kind that must have a name, and has none
may_lack : (clients all : List Record) (k : RecordKind) → is_unfounded clients all k None ≡ false → (frees k && true) ≡ false → needs_name k ≡ true → may_lack_name k ≡ true
may_lack clients all kinds.Took founded tagged needs = refl
may_lack clients all kinds.TookDrained founded tagged needs = refl
may_lack clients all kinds.Recalled founded tagged needs = refl
may_lack clients all (kinds.Noted true) founded tagged needs = refl
may_lack clients all kinds.Offered founded tagged needs = absurd (true≢false founded)
may_lack clients all kinds.Passed founded tagged needs = absurd (true≢false founded)
may_lack clients all kinds.Failed founded tagged needs = absurd (true≢false founded)
may_lack clients all (kinds.Discarded recalled) founded tagged needs = absurd (true≢false tagged)
may_lack clients all _ founded tagged needs = absurd (cc)

nameless : (clients all past : List Record) (r : Record) → is_never_sent clients all r ≡ false → is_tag_fault past r ≡ false → lacks_name r ≡ true → may_lack_name r.kind ≡ true
nameless clients all past r founded tagged lacks = by_name r.name refl
  where
    both : (needs_name r.kind ≡ true) × (not (is_some r.name) ≡ true)
    both = and_parts (needs_name r.kind) (not (is_some r.name)) lacks

    by_name : (o : Option Name) → r.name ≡ o → may_lack_name r.kind ≡ true
    by_name (Some n) is = absurd (true≢false (sym both.1 ∙ ap (λ o. not (is_some o)) is))
    by_name None is =
        may_lack clients all r.kind (sym (ap (is_unfounded clients all r.kind) is) ∙ founded)
        (sym (ap (λ o. frees r.kind && not (of_named (λ n. is_named n (name_on r.tag past)) o)) is)
        ∙ (or_parts (begins r.kind && is_some (name_on r.tag past)) (frees r.kind && not (holds_own past r)) tagged).1)
        both.0

-- A RECORD THAT WAS REFUSED

module _ (hs taken : List Kept) (boot : ℕ) (id : SessionId) (rs : List Record) (place : ℕ) (cause : RecordFault) (borne : BearOut hs) (of : AreOf hs (behind id rs taken) id)
    (f : IsFaulty boot taken id rs place cause) where
  -- the records before it of its session, all that were taken before it, and those that were handed in behind it
  abbrev before : List Record
  before = f.own.records ++ take f.index rs

  abbrev walked : List Record
  walked = all_records (behind id (take f.index rs) taken)

  abbrev rest : List Record
  rest = drop (f.index + 1) rs

  abbrev Clear : Stop → Type 0
  Clear = IsFaultless (client_records hs) (all_records hs)

  parted : rs ≡ take f.index rs ++ f.met ∷ rest
  parted =
      sym (take-append-drop f.index rs)
      ∙ ap (λ l. take f.index rs ++ l) (drop_more rs f.index f.met (slice_get_within rs f.index f.met f.stands)
      ∙ ap (λ r. r ∷ rest) (get_or_from_slice_get rs f.index f.met f.met f.stands))

  begun : IsBegun hs (longer f.own rs)
  begun = of.begun (longer f.own rs) (kept_behind id rs taken f.own f.kept)

  stands : longer (longer f.own rs) begun.later ≡ record { session = id; mode = f.own.mode; records = before ++ f.met ∷ (rest ++ begun.later) }
  stands = λ i. record {
    session = kept_is id taken f.own f.kept i;
    mode = f.own.mode;
    records =
        (ap (λ l. (f.own.records ++ l) ++ begun.later) parted
        ∙ (ap (λ l. l ++ begun.later) (sym (append_assoc f.own.records (take f.index rs) (f.met ∷ rest)))
        ∙ append_assoc before (f.met ∷ rest) begun.later)) i;
  }

  faultless : (e : List Record) × Clear (record { session = id; mode = f.own.mode; earlier = e; past = reverse before; entry = f.met })
  faultless =
      let there = at_history Clear [] begun.before (record { session = id; mode = f.own.mode; records = before ++ f.met ∷ (rest ++ begun.later) }) begun.after
      (subst (λ l. All Clear (stops [] l)) (begun.whole ∙ ap (λ h. begun.before ++ h ∷ begun.after) stands) borne) in (
        there.0,
        subst (λ l. Clear (record { session = id; mode = f.own.mode; earlier = there.0; past = l; entry = f.met })) (append-nil (reverse before))
            (at_record Clear there.0 id f.own.mode before [] f.met (rest ++ begun.later) there.1),
      )

  -- whatever was taken before it, and it itself, are among the records that bear each other out
  once_each : (n : Name) → times answers n walked + times answers n (f.met ∷ rest) ≤ 1
  once_each n =
      let all = once Clear (λ s c. c.answered_once) n [] hs borne (omega arith) in
      let few = of.few (λ r. answers r.kind && is_named n r.name) in
      let whole = times_behind id rs answers n taken f.own f.kept in
      let part = times_behind id (take f.index rs) answers n taken f.own f.kept in
      let two = ap (times answers n) parted ∙ times-append answers n (take f.index rs) (f.met ∷ rest) in
      omega (arith, all, few, whole, part, two)

  leaves : (x : RecordFault) → HasCause x boot f.own.mode id (reverse before) walked f.met → Leaves x id (reverse before) f.met
  leaves causes.AfterDrain has = absurd (true≢false (sym has ∙ faultless.1.before_drain))
  leaves causes.Lapsed has = absurd (true≢false (sym has ∙ faultless.1.on_its_lease))
  leaves causes.TagOpen has = absurd (true≢false (sym has ∙ faultless.1.on_its_tag))
  leaves causes.AnsweredTwice has = absurd (true≢false (sym has ∙ answered_once walked rest f.met once_each))
  leaves causes.Nameless has = nameless (client_records hs) (all_records hs) (reverse before) f.met faultless.1.founded faultless.1.on_its_tag has
  leaves causes.BadEpoch (inl bad) = absurd (true≢false (sym bad ∙ faultless.1.leads_on))
  leaves causes.BadEpoch (inr waits) = waits
  leaves causes.OtherBoot has = tt
  leaves causes.OtherClient has = tt
  leaves causes.NotNext has = tt
  leaves causes.Uncounted has = tt

pub accuse_rightly : AccuseRightly
accuse_rightly hs taken boot id rs place cause borne of f = leaves hs taken boot id rs place cause borne of f cause f.faulty

-- A DISPATCH THAT IS LEFT

-- a record of these kinds bears the name
abbrev IsMet : (Stop → Type 0) → (RecordKind → Bool) → Name → Type 0
IsMet P p n = (s : Stop) × P s × ((p s.entry.kind && is_named n s.entry.name) ≡ true)

module _ (P : Stop → Type 0) (p : RecordKind → Bool) (n : Name) where
  met_in : (earlier : List Record) (id : SessionId) (mode : InitMode) (past later : List Record) → All P (stops_in earlier id mode past later) → has p n later ≡ true → IsMet P p n
  met_in earlier id mode past [] all found = absurd (cc found)
  met_in earlier id mode past (r ∷ later) all found =
      by_test (p r.kind && is_named n r.name) refl found (met_in earlier id mode (r ∷ past) later (All-tail P _ (stops_in earlier id mode (r ∷ past) later) all))
    where
      by_test : (b : Bool) → (p r.kind && is_named n r.name) ≡ b → (b || has p n later) ≡ true → (has p n later ≡ true → IsMet P p n) → IsMet P p n
      by_test true e h further = (_, All-head P _ (stops_in earlier id mode (r ∷ past) later) all, e)
      by_test false e h further = further h

  met : (earlier : List Record) (hs : List Kept) → All P (stops earlier hs) → has p n (all_records hs) ≡ true → IsMet P p n
  met earlier [] all found = absurd (cc found)
  met earlier (h ∷ hs) all found =
      by_test (has p n h.records) refl (sym (has_append p n h.records (all_records hs)) ∙ found)
      (met (earlier ++ h.records) hs (all_right P (stops_in earlier h.session h.mode [] h.records) (stops (earlier ++ h.records) hs) all))
    where
      by_test : (b : Bool) → has p n h.records ≡ b → (b || has p n (all_records hs)) ≡ true → (has p n (all_records hs) ≡ true → IsMet P p n) → IsMet P p n
      by_test true e f further = met_in earlier h.session h.mode [] h.records (all_left P (stops_in earlier h.session h.mode [] h.records) (stops (earlier ++ h.records) hs) all) e
      by_test false e f further = further f

only_offered : (k : RecordKind) → is_offered k ≡ true → k ≡ kinds.Offered
only_offered kinds.Offered e = refl
only_offered _ e = absurd (cc)

only_retried : (k : RecordKind) → is_retried k ≡ true → k ≡ kinds.Retried
only_retried kinds.Retried e = refl
only_retried _ e = absurd (cc)

only_passed : (k : RecordKind) → is_passed k ≡ true → k ≡ kinds.Passed
only_passed kinds.Passed e = refl
only_passed _ e = absurd (cc)

only_failed : (k : RecordKind) → is_failed k ≡ true → k ≡ kinds.Failed
only_failed kinds.Failed e = refl
only_failed _ e = absurd (cc)

unflawed : (came b : Bool) → (came ≡ true → b ≡ true) → (came && not b) ≡ false
unflawed true b so = ap not (so refl)
unflawed false b so = refl

module _ (n : Name) (hs : List Kept) (borne : BearOut hs) (l : Life) (life : IsLife n (client_records hs) (all_records hs) l) where
  fine_kind : (p : RecordKind → Bool) (k : RecordKind) → ((x : RecordKind) → p x ≡ true → x ≡ k) → has p n (all_records hs) ≡ true → faultless_by l.trace k ≡ true
  fine_kind p k only found =
      let m = met (IsFaultless (client_records hs) (all_records hs)) p n [] hs borne found in
      let both = and_parts (p m.0.entry.kind) (is_named n m.0.entry.name) m.2 in
      let f = m.1 in
      subst (λ x. faultless_by l.trace x ≡ true) (only m.0.entry.kind both.0)
      (faultless_so n (client_records hs) (all_records hs) l.trace m.0.entry (named_so n m.0.entry.name both.1) life.trace
      (record { sent_once = f.sent_once; founded = f.founded; not_nacked = f.not_nacked; lost = f.lost }))

  fine : IsFine l
  fine = record {
    offered = unflawed _ _ (λ e. fine_kind is_offered kinds.Offered only_offered (has_is is_offered n (all_records hs) ∙ (ap (nat_lt 0) life.trace.offered ∙ e)));
    retried = unflawed _ _ (λ e. fine_kind is_retried kinds.Retried only_retried (has_is is_retried n (all_records hs) ∙ (ap (nat_lt 0) life.trace.retried ∙ e)));
    passed = unflawed _ _ (λ e. fine_kind is_passed kinds.Passed only_passed (life.passed ∙ e));
    failed = unflawed _ _ (λ e. fine_kind is_failed kinds.Failed only_failed (life.failed ∙ e));
  }

untaken : (l : Life) (flaw : Flaw) → flaw_of l ≡ Some flaw → (l.trace.taken ≡ true → IsFine l) → flaw ≡ flaws.Untaken
untaken l flaw is fine = by_taken l.trace.taken refl
  where
    by_taken : (t : Bool) → l.trace.taken ≡ t → flaw ≡ flaws.Untaken
    by_taken false t = let first : flaw_of l ≡ Some flaws.Untaken = rw t refl in ap (λ o. unwrap_or o flaw) (sym is ∙ first)
    by_taken true t =
        let f = fine t in
        let none : flaw_of l ≡ None = rw f.offered (rw f.retried (rw f.passed (rw f.failed (rw t refl)))) in
        absurd (let e : None ≡ Some flaw = sym none ∙ is in cc)

pub close_rightly : CloseRightly
close_rightly hs ks a (faults.Dispatch n flaw) taken order borne (l, at, is) =
    (n, ap (faults.Dispatch n) (untaken l flaw is (λ t. fine n ks borne l (life_so hs ks order n l (life_is a.lives.boot hs (trail_of a) (life_of a.lives) (used_in a.lasts.items) taken n l at t)))))
close_rightly hs ks a (faults.Memory taken) t order borne h = absurd h
close_rightly hs ks a (faults.NotOpen session) t order borne h = absurd h
close_rightly hs ks a (faults.Record session place cause) t order borne h = absurd h
