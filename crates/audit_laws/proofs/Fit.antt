-- Each record of a list of a run names what an audit expects.
use Rattle.std.proofs.Common.{ℕ, List, [], ◌∷◌, ◌++◌, ◌+◌, ◌≡◌, ◌≤◌, ◌&&◌, ◌||◌, ◌⊎◌, inl, inr, Bool, true, false, not, Option, Some, None, refl, sym, ◌∙◌, ap, subst, arith, cond, filter, length}
use Rattle.std.specs.Prelude.{if◌then◌else◌, ◌==◌, nat_le, nat_lt, is_some}
use Rattle.std.proofs.lemmas.Bool.{and_parts, and_from, eqb-true, eq-eqb, ltb-true, or_cases}
use Rattle.std.proofs.lemmas.List.Sums.{sum_by-cons}
use Rattle.mux_history.specs.Bounds.{Bounds}
use Rattle.mux_history.specs.declared.name.Name.{Name}
use Rattle.mux_history.specs.declared.record.Record.{Record}
use Rattle.mux_history.specs.declared.kind.RecordKind.{RecordKind}
use Rattle.mux_history.specs.declared.kind.RecordKind.TheVariants.{Took, Noted, Passed, Retried, Nacked, Unrouted, Failed, Late, Epoch}
use Rattle.mux_history.specs.declared.kind.Standing.TheVariants.{Down, Up}
use Rattle.mux_history.specs.declared.session.InitMode.{InitMode}
use Rattle.mux_history.specs.declared.session.SessionId.{SessionId}
use Rattle.mux_history.specs.declared.session.SessionId.TheVariants.{Client, Server}
use Rattle.mux_history.specs.Holders.{of_named}
use Rattle.mux_history.specs.Readings.{answer_due, answer_kind, book, counted, dispatches, gives_name, is_epoch, is_named, is_offered, is_took, names_of, note_due, note_kind, present, reading, with_name}
use Rattle.mux_history.specs.Standings.{leads_to}
use Rattle.mux_history.proofs.Present.{dispatches_present, since_present}
use Rattle.mux_model.specs.Down.{DownSession}
use Rattle.mux_model.specs.Replay.{all_lead, are_histories, epochs, is_joined, is_next_name, is_up_history, may_follow, may_follow_up}
use Rattle.mux_legal.proofs.Basics.{named, one_if}
use Rattle.mux_legal.proofs.HeldDue.{Among}
use Rattle.mux_legal.proofs.ToldDown.{counts_on, not_both, of_some}
use Rattle.mux_legal.proofs.ToldEpochs.{each_epoch}
use Rattle.mux_legal.proofs.ToldHolders.{occurs}
use Rattle.rolling_audit.specs.Faults.{Waits, given_by, gives_own, is_not_next, is_of_other_boot, is_of_other_client}
use Rattle.rolling_audit.specs.Histories.{lacks_name, needs_name}
use Rattle.audit_laws.proofs.Named.{alone, and_none, Bears, bears_offered, before_bears, known, next, offers, source, Source, up_source, UpSource}

-- what holds of each record, behind those before it
abbrev pub EachBehind : (List Record → Record → Type 0) → List Record → Type 0
EachBehind P [] = Unit {0}
EachBehind P (r ∷ old) = P old r × EachBehind P old

pub at_behind : (P : List Record → Record → Type 0) (xs : List Record) (r : Record) (past : List Record) → EachBehind P (xs ++ r ∷ past) → P past r
at_behind P [] r past h = h.0
at_behind P (x ∷ xs) r past h = at_behind P xs r past h.1

-- a record has none of the causes that ask for names, and none begins an epoch while a dispatch waits
pub record IsFit (b : ℕ) (id : SessionId) (past : List Record) (r : Record) : Type 0 where
  pub here : is_of_other_boot b r ≡ false
  pub own : is_of_other_client id r ≡ false
  pub next : is_not_next id past r ≡ false
  pub called : lacks_name r ≡ false
  pub rested : is_epoch r.kind ≡ true → Waits id past → ⊥

-- a test of a name that fails at each name
fails_at : (p : Name → Bool) (o : Option Name) → ((n : Name) → o ≡ Some n → p n ≡ false) → of_named p o ≡ false
fails_at p None h = refl
fails_at p (Some n) h = h n refl

differs_not : (x y : ℕ) → x ≡ y → not (x == y) ≡ false
differs_not x y e = ap not (eq-eqb x y e)

-- one of a list that passes a test is left by it
among_filter : (p : Name → Bool) (n : Name) (ns : List Name) → Among n ns → p n ≡ true → 1 ≤ length (filter p ns)
among_filter p n [] a h = absurd a
among_filter p n (m ∷ ms) a h = by_test (p m) refl a (among_filter p n ms)
  where
    by_test : (b : Bool) → p m ≡ b → (n ≡ m) ⊎ Among n ms → (Among n ms → p n ≡ true → 1 ≤ length (filter p ms)) → 1 ≤ length (if b then m ∷ filter p ms else filter p ms)
    by_test true e a rest = omega arith
    by_test false e (inl same) rest = not_both (p m) e (sym (ap p same) ∙ h)
    by_test false e (inr later) rest = rest later h

-- a dispatch that may be sent again is due an answer
retried_due : (c : DownSession) (past : List Record) (r : Record) (k : RecordKind) → may_follow c past r k ≡ true → k ≡ Retried → (n : Name) × (r.name ≡ Some n) × (answer_due n past ≡ true)
retried_due c past r Retried m e = (let x = of_some _ r.name m in (x.0, x.1, (and_parts _ _ (and_parts _ _ (and_parts _ _ (and_parts _ _ x.2).0).0).0).0))
retried_due c past r _ m e = absurd (cc)

-- A CLIENT'S LIST

module _ (limits : Bounds) (b k : ℕ) (mode : InitMode) where
  abbrev pub session : DownSession
  session = record { limits = limits; boot = b; number = k }

  -- its names
  abbrev pub IsMine : Name → Type 0
  IsMine n = (n.boot ≡ b) × (n.client ≡ k)

  pub next_mine : (past : List Record) (n : Name) → is_next_name session past n ≡ true → IsMine n × (n.seq ≡ dispatches past + 1)
  next_mine past n h =
      let a = and_parts _ _ h in
      let c = and_parts _ _ a.0 in
      let d = and_parts _ _ c.0 in
      ((eqb-true n.boot b d.0, eqb-true n.client k d.1), eqb-true n.seq (dispatches past + 1) c.1)

  abbrev pub before : Record → List Record → List Record
  before r old = if is_epoch r.kind then [] else present old

  pub follows : (r : Record) (old : List Record) → are_histories limits b mode (Client k) (epochs (r ∷ old)) ≡ true → may_follow session (before r old) r r.kind ≡ true
  follows r old h = (and_parts _ _ (and_parts _ _ (each_epoch limits b mode (Client k) r old h).0).0).0

  pub all_mine : (rs : List Record) → are_histories limits b mode (Client k) (epochs rs) ≡ true → (n : Name) → Bears n rs → IsMine n
  all_mine [] h n bears = absurd bears
  all_mine (r ∷ old) h n (inr x) = all_mine old (each_epoch limits b mode (Client k) r old h).1 n x
  all_mine (r ∷ old) h n (inl is) = by_source (source session (before r old) r r.kind (follows r old h)) (all_mine old (each_epoch limits b mode (Client k) r old h).1)
    where
      by_source : Source session (before r old) r r.kind → ((m : Name) → Bears m old → IsMine m) → IsMine n
      by_source (alone g x none) rest = absurd (let e : None ≡ Some n = sym none ∙ is in cc)
      by_source (next g m it x) rest = (let e : Some m ≡ Some n = sym it ∙ is in let same : m ≡ n = cc in subst IsMine same (next_mine (before r old) m x).0)
      by_source (known g m it x) rest = (let e : Some m ≡ Some n = sym it ∙ is in let same : m ≡ n = cc in subst IsMine same (rest m (before_bears m r old x)))

  -- how many names it gave is what its records tell, over all epochs
  given_more : (r : Record) (old : List Record) → given_by (Client k) (r ∷ old) ≡ cond (gives_name r.kind) 1 0 + given_by (Client k) old
  given_more r old = sum_by-cons (λ x. cond (gives_own (Client k) x) 1 0) r old

  pub counted_sealed : (past : List Record) (r : Record) (x : RecordKind) → is_epoch x ≡ true → may_follow session [] r x ≡ true → leads_to mode (Client k) past r x ≡ true →
      (counted x (dispatches past) ≡ dispatches past) × (gives_name x ≡ false) × (nat_lt (length (book past)) 1 ≡ true)
  counted_sealed past r (Epoch number (Down fresh drain taken)) e m lead =
      (let a = and_parts _ _ (and_parts _ _ lead).1 in (eqb-true taken (dispatches past) (and_parts _ _ (and_parts _ _ a.1).0).0, refl, a.0))
  counted_sealed past r (Epoch number (Up init drained retired ping leased lapse)) e m lead = absurd (cc)
  counted_sealed past r _ e m lead = absurd (cc)

  given_told : (rs : List Record) → are_histories limits b mode (Client k) (epochs rs) ≡ true → all_lead mode (Client k) rs ≡ true → given_by (Client k) rs ≡ dispatches rs
  given_told [] h lead = refl
  given_told (r ∷ old) h lead =
      let l = and_parts _ _ lead in
      let rest = given_told old (each_epoch limits b mode (Client k) r old h).1 l.1 in
      given_more r old ∙ by_epoch (is_epoch r.kind) refl (follows r old h) l.0 rest
    where
      by_gift : (g : Bool) → given_by (Client k) old ≡ dispatches old → cond g 1 0 + given_by (Client k) old ≡ (if g then dispatches old + 1 else dispatches old)
      by_gift true rest = omega (arith, rest)
      by_gift false rest = omega (arith, rest)

      by_epoch : (x : Bool) → is_epoch r.kind ≡ x → may_follow session (if x then [] else present old) r r.kind ≡ true → leads_to mode (Client k) old r r.kind ≡ true → given_by (Client k) old ≡ dispatches old →
          cond (gives_name r.kind) 1 0 + given_by (Client k) old ≡ counted r.kind (dispatches old)
      by_epoch true e m lead rest =
          (let s = counted_sealed old r r.kind e m lead in let none : cond (gives_name r.kind) 1 0 ≡ 0 = ap (λ g. one_if g) s.1 in omega (arith, rest, s.0, none))
      by_epoch false e m lead rest = by_gift (gives_name r.kind) rest ∙ sym (counts_on r.kind (dispatches old) e)

  -- what is due was taken in this epoch
  due_among : (n : Name) (rs : List Record) → answer_due n rs ≡ true → Among n (names_of is_took rs)
  due_among n [] h = absurd (cc)
  due_among n (r ∷ old) h = by_tests (is_epoch r.kind) (is_named n r.name) refl h (due_among n old)
    where
      rest_among : (t : Bool) (o : Option Name) → Among n (names_of is_took old) → Among n (if t then with_name o (names_of is_took old) else names_of is_took old)
      rest_among true None x = x
      rest_among true (Some m) x = inr x
      rest_among false o x = x

      here_among : (o : Option Name) → is_named n o ≡ true → Among n (with_name o (names_of is_took old))
      here_among None e = absurd (cc)
      here_among (Some m) e = (let same : Some m ≡ Some n = named n (Some m) e in inl (cc))

      by_kind : (x : RecordKind) (was : Bool) → answer_kind x was ≡ true → (is_took x ≡ true) ⊎ (was ≡ true)
      by_kind Took was h = inl refl
      by_kind Passed was h = absurd (cc)
      by_kind Failed was h = absurd (cc)
      by_kind Nacked was h = absurd (cc)
      by_kind Unrouted was h = absurd (cc)
      by_kind (Late whole) was h = absurd (cc)
      by_kind _ was h = inr h

      by_tests : (a c : Bool) → is_named n r.name ≡ c → (if a then false else if c then answer_kind r.kind (answer_due n old) else answer_due n old) ≡ true → (answer_due n old ≡ true → Among n (names_of is_took old)) →
          Among n (if a then [] else if is_took r.kind then with_name r.name (names_of is_took old) else names_of is_took old)
      by_tests true c is h rest = absurd (cc)
      by_tests false false is h rest = rest_among (is_took r.kind) r.name (rest h)
      by_tests false true is h rest =
          elim (by_kind r.kind (answer_due n old) h) [
            | inl t ↦ subst (λ x. Among n (if x then with_name r.name (names_of is_took old) else names_of is_took old)) (sym t) (here_among r.name is)
            | inr d ↦ rest_among (is_took r.kind) r.name (rest d)
          ]

  note_among : (n : Name) (rs : List Record) → are_histories limits b mode (Client k) (epochs rs) ≡ true → note_due n rs ≡ true → Among n (names_of is_took rs)
  note_among n [] w h = absurd (cc)
  note_among n (r ∷ old) w h = by_tests (is_epoch r.kind) (is_named n r.name) refl refl (follows r old w) h (note_among n old (each_epoch limits b mode (Client k) r old w).1)
    where
      rest_among : (t : Bool) (o : Option Name) → Among n (names_of is_took old) → Among n (if t then with_name o (names_of is_took old) else names_of is_took old)
      rest_among true None x = x
      rest_among true (Some m) x = inr x
      rest_among false o x = x

      here_among : (o : Option Name) → is_named n o ≡ true → Among n (with_name o (names_of is_took old))
      here_among None e = absurd (cc)
      here_among (Some m) e = (let same : Some m ≡ Some n = named n (Some m) e in inl (cc))

      by_kind : (x : RecordKind) (was : Bool) → note_kind x was ≡ true → (is_took x ≡ true) ⊎ ((x ≡ Retried) ⊎ (was ≡ true))
      by_kind Took was h = inl refl
      by_kind Retried was h = inr (inl refl)
      by_kind (Noted x) was h = absurd (cc)
      by_kind Nacked was h = absurd (cc)
      by_kind Unrouted was h = absurd (cc)
      by_kind (Late true) was h = absurd (cc)
      by_kind (Late false) was h = inr (inr h)
      by_kind _ was h = inr (inr h)

      again : may_follow session (present old) r r.kind ≡ true → r.kind ≡ Retried → is_named n r.name ≡ true → answer_due n old ≡ true
      again m it is =
          let x = retried_due session (present old) r r.kind m it in
          let e : Some x.0 ≡ Some n = sym x.1 ∙ named n r.name is in
          let same : x.0 ≡ n = cc in
          sym (since_present answer_kind n old) ∙ (ap (λ m. answer_due m (present old)) (sym same) ∙ x.2)

      by_tests : (a c : Bool) → is_epoch r.kind ≡ a → is_named n r.name ≡ c → may_follow session (if a then [] else present old) r r.kind ≡ true →
          (if a then false else if c then note_kind r.kind (note_due n old) else note_due n old) ≡ true → (note_due n old ≡ true → Among n (names_of is_took old)) →
          Among n (if a then [] else if is_took r.kind then with_name r.name (names_of is_took old) else names_of is_took old)
      by_tests true c e is m h rest = absurd (cc)
      by_tests false false e is m h rest = rest_among (is_took r.kind) r.name (rest h)
      by_tests false true e is m h rest =
          elim (by_kind r.kind (note_due n old) h) [
            | inl t ↦ subst (λ x. Among n (if x then with_name r.name (names_of is_took old) else names_of is_took old)) (sym t) (here_among r.name is)
            | inr (inl t) ↦ rest_among (is_took r.kind) r.name (due_among n old (again m t is))
            | inr (inr d) ↦ rest_among (is_took r.kind) r.name (rest d)
          ]

  -- so an epoch begins where none waits
  pub none_waits : (past : List Record) → are_histories limits b mode (Client k) (epochs past) ≡ true → nat_lt (length (book past)) 1 ≡ true → Waits (Client k) past → ⊥
  none_waits past h empty (n, due) =
      let there : Among n (names_of is_took past) = elim (or_cases (note_due n past) (answer_due n past) due) [ inl x ↦ note_among n past h x | inr x ↦ due_among n past x ] in
      let held = among_filter (λ m. note_due m past || answer_due m past) n (names_of is_took past) there due in
      omega (arith, held, ltb-true (length (book past)) 1 empty)

  client_fit : (past : List Record) (r : Record) → are_histories limits b mode (Client k) (epochs (r ∷ past)) ≡ true → all_lead mode (Client k) (r ∷ past) ≡ true → IsFit b (Client k) past r
  client_fit past r h lead = record {
    here = fails_at (λ n. not (n.boot == b)) r.name (λ n is. differs_not n.boot b (mine n is).0);
    own = fails_at (λ n. not (n.client == k)) r.name (λ n is. differs_not n.client k (mine n is).1);
    next = by_gift (gives_name r.kind) refl;
    called = by_called from;
    rested = λ e waits. none_waits past before_it (sealed e (follows r past h)) waits;
  }
    where
      before_it : are_histories limits b mode (Client k) (epochs past) ≡ true
      before_it = (each_epoch limits b mode (Client k) r past h).1

      mine : (n : Name) → r.name ≡ Some n → IsMine n
      mine n is = all_mine (r ∷ past) h n (inl is)

      from : Source session (before r past) r r.kind
      from = source session (before r past) r r.kind (follows r past h)

      by_called : Source session (before r past) r r.kind → lacks_name r ≡ false
      by_called (alone g x none) = ap (λ y. y && not (is_some r.name)) x
      by_called (next g m it x) = ap (λ o. needs_name r.kind && not (is_some o)) it ∙ and_none (needs_name r.kind)
      by_called (known g m it x) = ap (λ o. needs_name r.kind && not (is_some o)) it ∙ and_none (needs_name r.kind)

      seq_of : gives_name r.kind ≡ true → Source session (before r past) r r.kind → of_named (λ n. n.seq == given_by (Client k) past + 1) r.name ≡ true
      seq_of g (alone none x y) = not_both (gives_name r.kind) none g
      seq_of g (known none m it x) = not_both (gives_name r.kind) none g
      seq_of g (next gives m it x) =
          ap (of_named (λ n. n.seq == given_by (Client k) past + 1)) it
          ∙ eq-eqb m.seq (given_by (Client k) past + 1) ((next_mine (before r past) m x).1 ∙ ap (λ y. y + 1) (told ∙ sym (given_told past before_it (and_parts _ _ lead).1)))
        where
          no_gift : (x : RecordKind) → is_epoch x ≡ true → gives_name x ≡ false
          no_gift (Epoch number standing) e = refl
          no_gift _ e = absurd (cc)

          by_epoch : (b : Bool) → is_epoch r.kind ≡ b → dispatches (if b then [] else present past) ≡ dispatches past
          by_epoch true e = not_both (gives_name r.kind) (no_gift r.kind e) g
          by_epoch false e = dispatches_present past

          told : dispatches (before r past) ≡ dispatches past
          told = by_epoch (is_epoch r.kind) refl

      by_gift : (g : Bool) → gives_name r.kind ≡ g → (g && not (of_named (λ n. n.seq == given_by (Client k) past + 1) r.name)) ≡ false
      by_gift false e = refl
      by_gift true e = ap not (seq_of e from)

      sealed : is_epoch r.kind ≡ true → may_follow session (before r past) r r.kind ≡ true → nat_lt (length (book past)) 1 ≡ true
      sealed e m = (counted_sealed past r r.kind e (subst (λ x. may_follow session (if x then [] else present past) r r.kind ≡ true) e m) (and_parts _ _ lead).0).2

-- A SERVER'S LIST

module _ (limits : Bounds) (b k : ℕ) (mode : InitMode) where
  server_fit : (past : List Record) (r : Record) → are_histories limits b mode (Server k) (epochs (r ∷ past)) ≡ true → ((n : Name) → 1 ≤ occurs is_offered n (r ∷ past) → n.boot ≡ b) → IsFit b (Server k) past r
  server_fit past r h offered = record {
    here = fails_at (λ n. not (n.boot == b)) r.name (λ n is. differs_not n.boot b (offered n (bears_offered n limits b mode k (r ∷ past) h (inl is))));
    own = refl;
    next = refl;
    called = by_called (up_source (record { limits = limits; number = k; mode = mode }) (if is_epoch r.kind then [] else present past) f.1 r r.kind (and_parts _ _ f.0).0);
    rested = λ e waits. waits;
  }
    where
      f : (may_follow_up (record { limits = limits; number = k; mode = mode }) (if is_epoch r.kind then [] else present past) r r.kind && nat_le (reading (if is_epoch r.kind then [] else present past)) r.reading ≡ true)
          × (is_up_history (record { limits = limits; number = k; mode = mode }) (if is_epoch r.kind then [] else present past) ≡ true)
      f = and_parts _ _ (each_epoch limits b mode (Server k) r past h).0

      by_called : UpSource (if is_epoch r.kind then [] else present past) r r.kind → lacks_name r ≡ false
      by_called (alone x none) = ap (λ y. y && not (is_some r.name)) x
      by_called (offers o m it) = ap (λ x. needs_name r.kind && not (is_some x)) it ∙ and_none (needs_name r.kind)
      by_called (known m it x) = ap (λ x. needs_name r.kind && not (is_some x)) it ∙ and_none (needs_name r.kind)

-- EACH RECORD OF A LIST

pub all_fit : (limits : Bounds) (b : ℕ) (mode : InitMode) (id : SessionId) (rs : List Record) → is_joined limits b mode id rs ≡ true → ((n : Name) → 1 ≤ occurs is_offered n rs → n.boot ≡ b) → EachBehind (IsFit b id) rs
all_fit limits b mode id [] h offered = tt
all_fit limits b mode id (r ∷ old) h offered =
    let j = and_parts _ _ h in
    let rest : is_joined limits b mode id old ≡ true = and_from (are_histories limits b mode id (epochs old)) (all_lead mode id old) (each_epoch limits b mode id r old j.0).1 (and_parts _ _ j.1).1 in
    (by_session id j.0 j.1, all_fit limits b mode id old rest (λ n. earlier n (offered n)))
  where
    earlier : (n : Name) → (1 ≤ occurs is_offered n (r ∷ old) → n.boot ≡ b) → 1 ≤ occurs is_offered n old → n.boot ≡ b
    earlier n here one = here (omega (arith, one))

    by_session : (id : SessionId) → are_histories limits b mode id (epochs (r ∷ old)) ≡ true → all_lead mode id (r ∷ old) ≡ true → IsFit b id old r
    by_session (Client k) w lead = client_fit limits b k mode old r w lead
    by_session (Server k) w lead = server_fit limits b k mode old r w offered
