-- In a client's list no record is behind those that tell that nothing of a dispatch is due.
use Rattle.std.proofs.Common.{ℕ, zero, suc, List, [], ◌∷◌, ◌++◌, ◌+◌, ◌≡◌, ◌≤◌, ◌&&◌, ◌||◌, ◌⊎◌, inl, inr, Bool, true, false, not, Option, Some, None, refl, sym, ◌∙◌, ap, subst, arith}
use Rattle.std.specs.Prelude.{if◌then◌else◌, ◌==◌, is_some, nat_lt, length}
use Rattle.std.proofs.lemmas.Bool.{and_parts, and_from, eqb-true, eq-eqb, false_from_ne_true, or_parts}
use Rattle.mux_history.specs.Bounds.{Bounds}
use Rattle.mux_history.specs.declared.name.Name.{Name}
use Rattle.mux_history.specs.declared.record.Record.{Record}
use Rattle.mux_history.specs.declared.kind.RecordKind.{RecordKind}
use Rattle.mux_history.specs.declared.kind.RecordKind.TheVariants.{Took, TookDrained, Noted, Passed, Retried, Nacked, Unrouted, Failed, Late, Epoch}
use Rattle.mux_history.specs.declared.session.InitMode.{InitMode}
use Rattle.mux_history.specs.declared.session.SessionId.TheVariants.{Client}
use Rattle.mux_history.specs.Holders.{of_named, name_on, held_after, holds_own}
use Rattle.mux_history.specs.Readings.{answer_due, answer_kind, begins, book, counted, dispatches, ends, gives_name, has_ended, is_epoch, is_named, is_retried, is_took, note_due, note_kind, present, tag_of}
use Rattle.mux_history.specs.Standings.{leads_to}
use Rattle.mux_history.proofs.Present.{dispatches_present, ended_present, since_present}
use Rattle.mux_agree.specs.Agree.{answers, frees}
use Rattle.mux_model.specs.Down.{DownSession}
use Rattle.mux_model.specs.Replay.{all_lead, are_histories, epochs, is_down_history, is_next_name, is_open_entry, may_follow}
use Rattle.mux_legal.proofs.Basics.{is_its_name, named, not_true, one_if}
use Rattle.mux_legal.proofs.Invariant.{is_unsent}
use Rattle.mux_legal.proofs.KeptAlone.{Move, takes as it_takes, refuses, replies, rests, starts as begins_epoch, move}
use Rattle.mux_legal.proofs.OfBoot.{zero_or_more}
use Rattle.mux_legal.proofs.ToldDown.{counts_on, not_both, of_some}
use Rattle.mux_legal.proofs.ToldEpochs.{each_epoch, leads_open, present_history}
use Rattle.mux_legal.proofs.ToldHolders.{occurs}
use Rattle.rolling_audit.specs.Lives.{is_note}
use Rattle.audit_laws.proofs.Named.{alone, and_none, any, Bears, before_bears, due, ends_it, known, nameless, next, one_most, reason, Reason, since_bears, source, Source, takes}
use Rattle.audit_laws.proofs.Fit.{before, counted_sealed, follows, next_mine, none_waits, session}

-- a name is counted where a record bears it
pub counts_one : (p : RecordKind → Bool) (n : Name) (r : Record) → p r.kind ≡ true → is_named n r.name ≡ true → one_if (p r.kind && is_named n r.name) ≡ 1
counts_one p n r e is = ap one_if (and_from (p r.kind) (is_named n r.name) e is)

same_named : (m n : Name) (o : Option Name) → o ≡ Some m → is_named n o ≡ true → m ≡ n
same_named m n o it is = (let e : Some m ≡ Some n = sym it ∙ named n o is in cc)

-- THE TAG OF A DISPATCH that is due an answer: while the session goes on it is open, unless the dispatch was answered

took_free : (c : DownSession) (past : List Record) (r : Record) (k : RecordKind) → may_follow c past r k ≡ true → is_took k ≡ true → begins k ≡ true
took_free c past r Took m e = refl
took_free c past r _ m e = absurd (cc)

due_before : (k : RecordKind) (was : Bool) → gives_name k ≡ false → answer_kind k was ≡ true → was ≡ true
due_before Took was g h = absurd (cc)
due_before Passed was g h = absurd (cc)
due_before Failed was g h = absurd (cc)
due_before Nacked was g h = absurd (cc)
due_before Unrouted was g h = absurd (cc)
due_before (Late whole) was g h = absurd (cc)
due_before _ was g h = h

went : (a b x : Bool) → b ≡ false → (a || (not b && x)) ≡ false → x ≡ false
went true b x e h = absurd (cc)
went false true x e h = absurd (cc)
went false false x e h = h

is_held : (o : Option Name) (n : Name) → o ≡ Some n → is_some o ≡ true
is_held None n e = absurd (cc)
is_held (Some m) n e = refl

module _ (c : DownSession) (n : Name) where
  abbrev Holds : List Record → Type 0
  Holds rs = answer_due n rs ≡ true → has_ended rs ≡ false → occurs answers n rs ≡ 0 → name_on (tag_of n rs) rs ≡ Some n

  -- a record that leaves the holder of the tag as it is, and gives no name
  stays : (r : Record) (old : List Record) → is_epoch r.kind ≡ false → (gives_name r.kind && is_named n r.name) ≡ false → held_after (tag_of n old) r r.kind (name_on (tag_of n old) old) ≡ Some n → name_on (tag_of n (r ∷ old)) (r ∷ old) ≡ Some n
  stays r old e g h = ap (λ t. held_after t r r.kind (name_on t old)) (λ i. if e i then 0 else if g i then r.tag else tag_of n old) ∙ h

  holds : (rs : List Record) → is_down_history c rs ≡ true → Holds rs
  holds [] h = λ unpaid going none. absurd (cc)
  holds (r ∷ old) h = (let a = and_parts _ _ h in let m = (and_parts _ _ a.0).0 in let x = move c old r r.kind m in by_move m x.0 x.2 (holds old a.1))
    where
      -- the record neither bears the name nor is the word changed
      other : is_epoch r.kind ≡ false → is_named n r.name ≡ false → answer_due n (r ∷ old) ≡ true → answer_due n old ≡ true
      other e is d = sym (λ i. if e i then false else if is i then answer_kind r.kind (answer_due n old) else answer_due n old) ∙ d

      unnamed : answers r.kind ≡ true → occurs answers n (r ∷ old) ≡ 0 → is_named n r.name ≡ false
      unnamed a none = false_from_ne_true (is_named n r.name) (λ is. omega (arith, none, counts_one answers n r a is))

      by_move : may_follow c old r r.kind ≡ true → (begins r.kind && is_some (name_on r.tag old) || (frees r.kind && not (holds_own old r))) ≡ false → Move c old r r.kind → Holds old → Holds (r ∷ old)
      by_move m tag (it_takes e g a kt owed held is_next) rest unpaid going none = by_name (is_named n r.name) refl
        where
          by_name : (b : Bool) → is_named n r.name ≡ b → name_on (tag_of n (r ∷ old)) (r ∷ old) ≡ Some n
          by_name true is =
              ap (λ t. held_after t r r.kind (name_on t old)) (λ i. if e i then 0 else if and_from (gives_name r.kind) (is_named n r.name) g is i then r.tag else tag_of n old)
              ∙ (held r.tag (name_on r.tag old) ∙ (ap (λ b. if b then r.name else name_on r.tag old) (eq-eqb r.tag r.tag refl) ∙ named n r.name is))
          by_name false is =
              let earlier = rest (other e is unpaid) (went (ends r.kind) (is_epoch r.kind) (has_ended old) e going) (omega (arith, none)) in
              stays r old e (ap (λ b. gives_name r.kind && b) is ∙ and_none (gives_name r.kind)) (held (tag_of n old) (name_on (tag_of n old) old) ∙ by_tag (r.tag == tag_of n old) refl earlier)
            where
              by_tag : (b : Bool) → (r.tag == tag_of n old) ≡ b → name_on (tag_of n old) old ≡ Some n → (if b then r.name else name_on (tag_of n old) old) ≡ Some n
              by_tag false t earlier = earlier
              by_tag true t earlier =
                  not_both (begins r.kind && is_some (name_on r.tag old)) (or_parts _ _ tag).0
                  (and_from _ _ (took_free c old r r.kind m kt) (is_held (name_on r.tag old) n (ap (λ u. name_on u old) (eqb-true r.tag (tag_of n old) t) ∙ earlier)))
      by_move m tag (refuses e g a held is_next) rest unpaid going none =
          let is = unnamed a none in
          let earlier = rest (other e is unpaid) (went (ends r.kind) (is_epoch r.kind) (has_ended old) e going) (omega (arith, none)) in
          stays r old e (ap (λ b. gives_name r.kind && b) is ∙ and_none (gives_name r.kind)) (held (tag_of n old) (name_on (tag_of n old) old) ∙ earlier)
      by_move m tag (replies e g a held x x_is x_on) rest unpaid going none =
          let is = unnamed a none in
          let earlier = rest (other e is unpaid) (went (ends r.kind) (is_epoch r.kind) (has_ended old) e going) (omega (arith, none)) in
          stays r old e (ap (λ b. b && is_named n r.name) g) (held (tag_of n old) (name_on (tag_of n old) old) ∙ by_tag is (r.tag == tag_of n old) refl earlier)
        where
          by_tag : is_named n r.name ≡ false → (b : Bool) → (r.tag == tag_of n old) ≡ b → name_on (tag_of n old) old ≡ Some n → (if b then None else name_on (tag_of n old) old) ≡ Some n
          by_tag is false t earlier = earlier
          by_tag is true t earlier =
              (let same : Some x ≡ Some n = sym x_on ∙ (ap (λ u. name_on u old) (eqb-true r.tag (tag_of n old) t) ∙ earlier) in
              not_both (is_named n r.name) is (is_its_name n r.name (x_is ∙ same)))
      by_move m tag (rests e g a held owed) rest unpaid going none =
          let earlier = rest (by_name (is_named n r.name) refl) (went (ends r.kind) (is_epoch r.kind) (has_ended old) e going) (omega (arith, none)) in
          stays r old e (ap (λ b. b && is_named n r.name) g) (held (tag_of n old) (name_on (tag_of n old) old) ∙ earlier)
        where
          by_name : (b : Bool) → is_named n r.name ≡ b → answer_due n old ≡ true
          by_name false is = other e is unpaid
          by_name true is = due_before r.kind (answer_due n old) g (sym (λ i. if e i then false else if is i then answer_kind r.kind (answer_due n old) else answer_due n old) ∙ unpaid)
      by_move m tag (begins_epoch e a none_before) rest unpaid going none = absurd (let x : false ≡ true = sym (ap (λ b. if b then false else if is_named n r.name then answer_kind r.kind (answer_due n old) else answer_due n old) e) ∙ unpaid in cc)

-- OVER ALL EPOCHS

abbrev is_late : RecordKind → Bool
is_late (Late whole) = true
is_late _ = false

took_gives : (k : RecordKind) → gives_name k ≡ false → is_took k ≡ false
took_gives Took g = absurd (cc)
took_gives _ g = refl

took_due : (k : RecordKind) (x : Bool) → is_took k ≡ true → answer_kind k x ≡ true
took_due Took x e = refl
took_due _ x e = absurd (cc)

-- what a record makes of an answer that is due
due_kind : (k : RecordKind) → (answer_kind k true ≡ true) ⊎ ((answers k ≡ true) ⊎ (is_late k ≡ true))
due_kind Passed = inr (inl refl)
due_kind Failed = inr (inl refl)
due_kind Nacked = inr (inl refl)
due_kind Unrouted = inr (inl refl)
due_kind (Late whole) = inr (inr refl)
due_kind _ = inl refl

epoch_kind : (k : RecordKind) → is_epoch k ≡ true → (answers k ≡ false) × (is_retried k ≡ false) × (gives_name k ≡ false)
epoch_kind (Epoch number standing) e = (refl, refl, refl)
epoch_kind _ e = absurd (cc)

-- a late answer comes where the tag isn't the dispatch's any more
late_shut : (c : DownSession) (past : List Record) (r : Record) (n : Name) (k : RecordKind) → is_late k ≡ true → may_follow c past r k ≡ true → is_named n r.name ≡ true → is_open_entry past n ≡ false
late_shut c past r n (Late x) e m is =
    not_true (is_open_entry past n) (and_parts _ _ (and_parts _ _ (and_parts _ _ (sym (ap (of_named (λ m. answer_due m past && not (is_open_entry past m) && (if x then note_due m past else true) && r.tag == tag_of m past)) (named n r.name is)) ∙ m)).0).0).1
late_shut c past r n _ e m is = absurd (cc)

retried_noted : (c : DownSession) (past : List Record) (r : Record) (n : Name) (k : RecordKind) → is_retried k ≡ true → may_follow c past r k ≡ true → is_named n r.name ≡ true → note_due n past ≡ false
retried_noted c past r n Retried e m is = (let x = of_some _ r.name m in
    let same = same_named x.0 n r.name x.1 is in
    ap (λ y. note_due y past) (sym same) ∙ not_true (note_due x.0 past) (and_parts _ _ (and_parts _ _ (and_parts _ _ x.2).0).0).1)
retried_noted c past r n _ e m is = absurd (cc)

occurs_present : (p : RecordKind → Bool) (n : Name) (rs : List Record) → occurs p n (present rs) ≤ occurs p n rs
occurs_present p n [] = omega arith
occurs_present p n (r ∷ old) = by_epoch (is_epoch r.kind) (occurs_present p n old)
  where
    by_epoch : (x : Bool) → occurs p n (present old) ≤ occurs p n old → one_if (p r.kind && is_named n r.name) + occurs p n (if x then [] else present old) ≤ one_if (p r.kind && is_named n r.name) + occurs p n old
    by_epoch true h = omega arith
    by_epoch false h = omega (arith, h)

pub occurs_bears : (p : RecordKind → Bool) (n : Name) (rs : List Record) → 1 ≤ occurs p n rs → Bears n rs
occurs_bears p n [] one = absurd (omega (arith, one))
occurs_bears p n (r ∷ old) one = by_test (p r.kind) (is_named n r.name) refl one (occurs_bears p n old)
  where
    by_test : (a is : Bool) → is_named n r.name ≡ is → 1 ≤ one_if (a && is) + occurs p n old → (1 ≤ occurs p n old → Bears n old) → (r.name ≡ Some n) ⊎ Bears n old
    by_test a true e one rest = inl (named n r.name e)
    by_test true false e one rest = inr (rest (omega (arith, one)))
    by_test false false e one rest = inr (rest (omega (arith, one)))

-- a dispatch that was taken was answered when it came, or is due an answer
gives_kinds : (n : Name) (rs : List Record) → occurs gives_name n rs ≤ occurs is_took n rs + occurs answers n rs
gives_kinds n [] = omega arith
gives_kinds n (r ∷ rs) = omega (arith, by_kind r.kind, gives_kinds n rs)
  where
    by_kind : (k : RecordKind) → one_if (gives_name k && is_named n r.name) ≤ one_if (is_took k && is_named n r.name) + one_if (answers k && is_named n r.name)
    by_kind Took = omega arith
    by_kind TookDrained = omega arith
    by_kind _ = omega arith

-- a note
abbrev NoteStep : RecordKind → (is d : Bool) → Type 0
NoteStep k is d = one_if (gives_name k && is) + one_if (is_retried k && is) + one_if d ≤ one_if (is_note k && is) + one_if (is_unsent k && is) + one_if (if is then note_kind k d else d)

note_step : (k : RecordKind) (is d : Bool) → (is_took k ≡ true → is ≡ true → d ≡ false) → (is_retried k ≡ true → is ≡ true → d ≡ false) → NoteStep k is d
note_step Took true d p q = omega (arith, ap one_if (p refl refl))
note_step Took false d p q = omega arith
note_step Retried true d p q = omega (arith, ap one_if (q refl refl))
note_step Retried false d p q = omega arith
note_step TookDrained true d p q = omega arith
note_step TookDrained false d p q = omega arith
note_step (Noted x) true d p q = omega (arith, one_most d)
note_step (Noted x) false d p q = omega arith
note_step Nacked true d p q = omega (arith, one_most d)
note_step Nacked false d p q = omega arith
note_step Unrouted true d p q = omega (arith, one_most d)
note_step Unrouted false d p q = omega arith
note_step (Late true) true d p q = omega (arith, one_most d)
note_step (Late true) false d p q = omega arith
note_step (Late false) true d p q = omega arith
note_step (Late false) false d p q = omega arith
note_step _ true d p q = omega arith
note_step _ false d p q = omega arith

-- nothing is due of a dispatch, and it was answered or the session has ended
record Quiet (n : Name) (rs : List Record) : Type 0 where
  bears : Bears n rs
  none : (note_due n rs || answer_due n rs) ≡ false
  over : (1 ≤ occurs answers n rs) ⊎ (has_ended rs ≡ true)

module _ (limits : Bounds) (b k : ℕ) (mode : InitMode) where
  abbrev c : DownSession
  c = session limits b k mode

  abbrev pub Joined : List Record → Type 0
  Joined rs = (are_histories limits b mode (Client k) (epochs rs) ≡ true) × (all_lead mode (Client k) rs ≡ true)

  older : (r : Record) (old : List Record) → Joined (r ∷ old) → Joined old
  older r old j = ((each_epoch limits b mode (Client k) r old j.0).1, (and_parts _ _ j.1).1)

  led : (r : Record) (old : List Record) → Joined (r ∷ old) → leads_to mode (Client k) old r r.kind ≡ true
  led r old j = (and_parts _ _ j.1).0

  follow_as : (r : Record) (old : List Record) → Joined (r ∷ old) → (x : Bool) → is_epoch r.kind ≡ x → may_follow c (if x then [] else present old) r r.kind ≡ true
  follow_as r old j x e = subst (λ y. may_follow c (if y then [] else present old) r r.kind ≡ true) e (follows limits b k mode r old j.0)

  sealed : (r : Record) (old : List Record) → Joined (r ∷ old) → is_epoch r.kind ≡ true → (counted r.kind (dispatches old) ≡ dispatches old) × (gives_name r.kind ≡ false) × (nat_lt (length (book old)) 1 ≡ true)
  sealed r old j e = counted_sealed limits b k mode old r r.kind e (follow_as r old j true e) (led r old j)

  nothing_due : (n : Name) (r : Record) (old : List Record) → Joined (r ∷ old) → is_epoch r.kind ≡ true → (note_due n old || answer_due n old) ≡ false
  nothing_due n r old j e =
      false_from_ne_true (note_due n old || answer_due n old) (λ d. none_waits limits b k mode old (older r old j).0 (sealed r old j e).2 (n, d))

  dispatches_more : (r : Record) (old : List Record) → Joined (r ∷ old) → dispatches (r ∷ old) ≡ one_if (gives_name r.kind) + dispatches old
  dispatches_more r old j = by_epoch (is_epoch r.kind) refl
    where
      by_gift : (g : Bool) → (if g then dispatches old + 1 else dispatches old) ≡ one_if g + dispatches old
      by_gift true = omega arith
      by_gift false = omega arith

      by_epoch : (x : Bool) → is_epoch r.kind ≡ x → counted r.kind (dispatches old) ≡ one_if (gives_name r.kind) + dispatches old
      by_epoch true e = (let s = sealed r old j e in omega (arith, s.0, ap one_if s.1))
      by_epoch false e = counts_on r.kind (dispatches old) e ∙ by_gift (gives_name r.kind)

  -- the next name, behind those before
  next_seq : (r : Record) (old : List Record) (n : Name) → gives_name r.kind ≡ true → is_next_name c (before limits b k mode r old) n ≡ true → n.seq ≡ dispatches old + 1
  next_seq r old n g h = (next_mine limits b k mode (before limits b k mode r old) n h).1 ∙ ap (λ x. x + 1) (by_epoch (is_epoch r.kind) refl)
    where
      by_epoch : (x : Bool) → is_epoch r.kind ≡ x → dispatches (if x then [] else present old) ≡ dispatches old
      by_epoch true e = not_both (gives_name r.kind) (epoch_kind r.kind e).2 g
      by_epoch false e = dispatches_present old

  bears_seq : (n : Name) (rs : List Record) → Joined rs → Bears n rs → n.seq ≤ dispatches rs
  bears_seq n [] j x = absurd x
  bears_seq n (r ∷ old) j (inr x) = omega (arith, bears_seq n old (older r old j) x, dispatches_more r old j)
  bears_seq n (r ∷ old) j (inl is) = by_source (source c (before limits b k mode r old) r r.kind (follows limits b k mode r old j.0)) (bears_seq n old (older r old j))
    where
      by_source : Source c (before limits b k mode r old) r r.kind → (Bears n old → n.seq ≤ dispatches old) → n.seq ≤ dispatches (r ∷ old)
      by_source (alone g x none) rest = absurd (let e : None ≡ Some n = sym none ∙ is in cc)
      by_source (next g m it x) rest =
          (let same = same_named m n r.name it (is_its_name n r.name is) in
          omega (arith, next_seq r old m g x, ap (λ (y : Name). y.seq) same, dispatches_more r old j, ap one_if g))
      by_source (known g m it x) rest =
          (let same = same_named m n r.name it (is_its_name n r.name is) in
          omega (arith, rest (before_bears n r old (subst (λ y. Bears y (before limits b k mode r old)) same x)), dispatches_more r old j))

  pub bears_given : (n : Name) (rs : List Record) → Joined rs → Bears n rs → 1 ≤ occurs gives_name n rs
  bears_given n [] j x = absurd x
  bears_given n (r ∷ old) j (inr x) = omega (arith, bears_given n old (older r old j) x)
  bears_given n (r ∷ old) j (inl is) = by_source (source c (before limits b k mode r old) r r.kind (follows limits b k mode r old j.0)) (bears_given n old (older r old j))
    where
      by_source : Source c (before limits b k mode r old) r r.kind → (Bears n old → 1 ≤ occurs gives_name n old) → 1 ≤ occurs gives_name n (r ∷ old)
      by_source (alone g x none) rest = absurd (let e : None ≡ Some n = sym none ∙ is in cc)
      by_source (next g m it x) rest = omega (arith, counts_one gives_name n r g (is_its_name n r.name is))
      by_source (known g m it x) rest =
          (let same = same_named m n r.name it (is_its_name n r.name is) in
          omega (arith, rest (before_bears n r old (subst (λ y. Bears y (before limits b k mode r old)) same x))))

  not_next : (n : Name) (r : Record) (old : List Record) → Joined (r ∷ old) → Bears n old → gives_name r.kind ≡ true → is_named n r.name ≡ true → ⊥
  not_next n r old j x g is = by_reason (reason c (before limits b k mode r old) r r.kind (follows limits b k mode r old j.0))
    where
      by_reason : Reason c (before limits b k mode r old) r r.kind → ⊥
      by_reason (nameless none _ _) = not_both (gives_name r.kind) none g
      by_reason (due none _ _ _) = not_both (gives_name r.kind) none g
      by_reason (ends_it none _ _ _ _ _) = not_both (gives_name r.kind) none g
      by_reason (takes _ m it y) =
          (let same = same_named m n r.name it is in
          omega (arith, next_seq r old m g y, ap (λ (z : Name). z.seq) same, bears_seq n old (older r old j) x))

  -- each note that was due was given, or is due
  pub note_balance : (n : Name) (rs : List Record) → Joined rs → occurs gives_name n rs + occurs is_retried n rs ≤ occurs is_note n rs + occurs is_unsent n rs + one_if (note_due n rs)
  note_balance n [] j = omega arith
  note_balance n (r ∷ old) j = by_epoch (is_epoch r.kind) refl (note_balance n old (older r old j))
    where
      fresh : is_took r.kind ≡ true → is_named n r.name ≡ true → note_due n old ≡ false
      fresh t is = false_from_ne_true (note_due n old) (λ d. not_next n r old j (since_bears note_kind n old d) (not_false_gift (gives_name r.kind) refl t) is)
        where
          not_false_gift : (g : Bool) → gives_name r.kind ≡ g → is_took r.kind ≡ true → g ≡ true
          not_false_gift true e t = refl
          not_false_gift false e t = not_both (is_took r.kind) (took_gives r.kind e) t

      again : is_epoch r.kind ≡ false → is_retried r.kind ≡ true → is_named n r.name ≡ true → note_due n old ≡ false
      again e t is = sym (since_present note_kind n old) ∙ retried_noted c (present old) r n r.kind t (follow_as r old j false e) is

      by_epoch : (x : Bool) → is_epoch r.kind ≡ x → occurs gives_name n old + occurs is_retried n old ≤ occurs is_note n old + occurs is_unsent n old + one_if (note_due n old) →
          (one_if (gives_name r.kind && is_named n r.name) + occurs gives_name n old) + (one_if (is_retried r.kind && is_named n r.name) + occurs is_retried n old)
          ≤ (one_if (is_note r.kind && is_named n r.name) + occurs is_note n old) + (one_if (is_unsent r.kind && is_named n r.name) + occurs is_unsent n old) + one_if (if x then false else if is_named n r.name then note_kind r.kind (note_due n old) else note_due n old)
      by_epoch true e rest =
          (let kinds = epoch_kind r.kind e in
          omega (
            arith,
            rest,
            ap one_if (or_parts (note_due n old) (answer_due n old) (nothing_due n r old j e)).0,
            ap (λ x. one_if (x && is_named n r.name)) kinds.1,
            ap (λ x. one_if (x && is_named n r.name)) kinds.2,
          ))
      by_epoch false e rest = omega (arith, rest, note_step r.kind (is_named n r.name) (note_due n old) fresh (again e))

  -- a dispatch that was taken is due an answer, or was answered, or the session has ended
  owes : (n : Name) (rs : List Record) → Joined rs → 1 ≤ occurs is_took n rs → (answer_due n rs ≡ true) ⊎ ((1 ≤ occurs answers n rs) ⊎ (has_ended rs ≡ true))
  owes n [] j one = absurd (omega (arith, one))
  owes n (r ∷ old) j one = by_epoch (is_epoch r.kind) refl (owes n old (older r old j))
    where
      late : is_epoch r.kind ≡ false → answer_due n old ≡ true → is_late r.kind ≡ true → is_named n r.name ≡ true → (1 ≤ occurs answers n old) ⊎ (has_ended old ≡ true)
      late e d l is = by_end (has_ended old) refl
        where
          by_count : has_ended old ≡ false → (1 ≤ occurs answers n old) ⊎ (occurs answers n old ≤ 0) → 1 ≤ occurs answers n old
          by_count going (inl one) = one
          by_count going (inr none) =
              let on = holds c n (present old) (present_history limits b mode (Client k) old (older r old j).0) (since_present answer_kind n old ∙ d) (ended_present old ∙ going) (omega (arith, none, occurs_present answers n old)) in
              let shut = late_shut c (present old) r n r.kind l (follow_as r old j false e) is in
              not_both (is_open_entry (present old) n) shut
              (ap (λ x. if x then false else is_named n (name_on (tag_of n (present old)) (present old))) (ended_present old ∙ going) ∙ is_its_name n (name_on (tag_of n (present old)) (present old)) on)

          either : (x : ℕ) → (1 ≤ x) ⊎ (x ≤ 0)
          either zero = inr (omega arith)
          either (suc x) = inl (omega arith)

          by_end : (x : Bool) → has_ended old ≡ x → (1 ≤ occurs answers n old) ⊎ (has_ended old ≡ true)
          by_end true e = inr e
          by_end false e = inl (by_count e (either (occurs answers n old)))

      ended_on : is_epoch r.kind ≡ false → has_ended old ≡ true → has_ended (r ∷ old) ≡ true
      ended_on e h = by_end (ends r.kind) (λ i. not (e i) && h i)
        where
          by_end : (x : Bool) → (not (is_epoch r.kind) && has_ended old) ≡ true → (x || (not (is_epoch r.kind) && has_ended old)) ≡ true
          by_end true y = refl
          by_end false y = y

      named_word : is_epoch r.kind ≡ false → is_named n r.name ≡ true → (y : Bool) → answer_due n old ≡ y → answer_due n (r ∷ old) ≡ answer_kind r.kind y
      named_word e is y d = λ i. if e i then false else if is i then answer_kind r.kind (d i) else answer_due n old

      unnamed_word : is_epoch r.kind ≡ false → is_named n r.name ≡ false → answer_due n (r ∷ old) ≡ answer_due n old
      unnamed_word e is = λ i. if e i then false else if is i then answer_kind r.kind (answer_due n old) else answer_due n old

      by_epoch : (x : Bool) → is_epoch r.kind ≡ x → (1 ≤ occurs is_took n old → (answer_due n old ≡ true) ⊎ ((1 ≤ occurs answers n old) ⊎ (has_ended old ≡ true))) →
          (answer_due n (r ∷ old) ≡ true) ⊎ ((1 ≤ occurs answers n (r ∷ old)) ⊎ (has_ended (r ∷ old) ≡ true))
      by_epoch true e rest =
          let none = ap (λ x. one_if (x && is_named n r.name)) (took_gives r.kind (epoch_kind r.kind e).2) in
          elim (rest (omega (arith, one, none))) [
            | inl d ↦ not_both (answer_due n old) (or_parts (note_due n old) (answer_due n old) (nothing_due n r old j e)).1 d
            | inr (inl a) ↦ inr (inl (omega (arith, a)))
            | inr (inr x) ↦ not_both (has_ended old) (leads_open mode (Client k) old r r.kind (led r old j) e) x
          ]
      by_epoch false e rest = by_took (is_took r.kind) (is_named n r.name) refl refl
        where
          before_it : is_named n r.name ≡ true → (answer_due n old ≡ true) ⊎ ((1 ≤ occurs answers n old) ⊎ (has_ended old ≡ true)) → (answer_due n (r ∷ old) ≡ true) ⊎ ((1 ≤ occurs answers n (r ∷ old)) ⊎ (has_ended (r ∷ old) ≡ true))
          before_it is (inl d) =
              elim (due_kind r.kind) [
                | inl owed ↦ inl (named_word e is true d ∙ owed)
                | inr (inl a) ↦ inr (inl (omega (arith, counts_one answers n r a is)))
                | inr (inr l) ↦ (elim (late e d l is) [ inl a ↦ inr (inl (omega (arith, a))) | inr x ↦ inr (inr (ended_on e x)) ])
              ]
          before_it is (inr (inl a)) = inr (inl (omega (arith, a)))
          before_it is (inr (inr x)) = inr (inr (ended_on e x))

          by_took : (t is : Bool) → is_took r.kind ≡ t → is_named n r.name ≡ is → (answer_due n (r ∷ old) ≡ true) ⊎ ((1 ≤ occurs answers n (r ∷ old)) ⊎ (has_ended (r ∷ old) ≡ true))
          by_took true true t is = inl (named_word e is (answer_due n old) refl ∙ took_due r.kind (answer_due n old) t)
          by_took false true t is = before_it is (rest (omega (arith, one, ap (λ x. one_if (x && is_named n r.name)) t)))
          by_took true false t is = unnamed (rest (omega (arith, one, ap (λ x. one_if (x && is_named n r.name)) t, ap one_if is)))
            where
              unnamed : (answer_due n old ≡ true) ⊎ ((1 ≤ occurs answers n old) ⊎ (has_ended old ≡ true)) → (answer_due n (r ∷ old) ≡ true) ⊎ ((1 ≤ occurs answers n (r ∷ old)) ⊎ (has_ended (r ∷ old) ≡ true))
              unnamed (inl d) = inl (unnamed_word e is ∙ d)
              unnamed (inr (inl a)) = inr (inl (omega (arith, a)))
              unnamed (inr (inr x)) = inr (inr (ended_on e x))
          by_took false false t is = unnamed (rest (omega (arith, one, ap (λ x. one_if (x && is_named n r.name)) t)))
            where
              unnamed : (answer_due n old ≡ true) ⊎ ((1 ≤ occurs answers n old) ⊎ (has_ended old ≡ true)) → (answer_due n (r ∷ old) ≡ true) ⊎ ((1 ≤ occurs answers n (r ∷ old)) ⊎ (has_ended (r ∷ old) ≡ true))
              unnamed (inl d) = inl (unnamed_word e is ∙ d)
              unnamed (inr (inl a)) = inr (inl (omega (arith, a)))
              unnamed (inr (inr x)) = inr (inr (ended_on e x))

  due_before_it : (n : Name) (r : Record) (old : List Record) → (note_due n (before limits b k mode r old) || answer_due n (before limits b k mode r old)) ≡ true → (note_due n old || answer_due n old) ≡ true
  due_before_it n r old h = by_epoch (is_epoch r.kind) h
    where
      by_epoch : (x : Bool) → (note_due n (if x then [] else present old) || answer_due n (if x then [] else present old)) ≡ true → (note_due n old || answer_due n old) ≡ true
      by_epoch true h = absurd (cc)
      by_epoch false h = (λ i. sym (since_present note_kind n old) i || sym (since_present answer_kind n old) i) ∙ h

  -- then it stays so
  stays_quiet : (n : Name) (r : Record) (old : List Record) → Joined (r ∷ old) → occurs answers n (r ∷ old) ≤ 1 → Quiet n old → (is_named n r.name ≡ false) × Quiet n (r ∷ old)
  stays_quiet n r old j few q = (other, record { bears = inr q.bears; none = none_now (is_epoch r.kind); over = over_now q.over })
    where
      by_reason : is_named n r.name ≡ true → Reason c (before limits b k mode r old) r r.kind → ⊥
      by_reason is (nameless g x none) = (let y : false ≡ true = sym (ap (is_named n) none) ∙ is in cc)
      by_reason is (takes g m it x) = not_next n r old j q.bears g is
      by_reason is (due g m it x) =
          (let same = same_named m n r.name it is in
          not_both (note_due n old || answer_due n old) q.none
          (due_before_it n r old (subst (λ y. (note_due y (before limits b k mode r old) || answer_due y (before limits b k mode r old)) ≡ true) same x)))
      by_reason is (ends_it g a going m it on) = by_over q.over
        where
          by_epoch : (x : Bool) → is_epoch r.kind ≡ x → has_ended (if x then [] else present old) ≡ false → has_ended old ≡ true → ⊥
          by_epoch true e going h = not_both (answers r.kind) (epoch_kind r.kind e).0 a
          by_epoch false e going h = not_both (has_ended old) (sym (ended_present old) ∙ going) h

          by_over : (1 ≤ occurs answers n old) ⊎ (has_ended old ≡ true) → ⊥
          by_over (inl one) = omega (arith, few, one, counts_one answers n r a is)
          by_over (inr h) = by_epoch (is_epoch r.kind) refl going h

      other : is_named n r.name ≡ false
      other = false_from_ne_true (is_named n r.name) (λ is. by_reason is (reason c (before limits b k mode r old) r r.kind (follows limits b k mode r old j.0)))

      none_now : (x : Bool) →
          ((if x then false else if is_named n r.name then note_kind r.kind (note_due n old) else note_due n old) || (if x then false else if is_named n r.name then answer_kind r.kind (answer_due n old) else answer_due n old)) ≡ false
      none_now true = refl
      none_now false = (λ i. (if other i then note_kind r.kind (note_due n old) else note_due n old) || (if other i then answer_kind r.kind (answer_due n old) else answer_due n old)) ∙ q.none

      over_now : (1 ≤ occurs answers n old) ⊎ (has_ended old ≡ true) → (1 ≤ occurs answers n (r ∷ old)) ⊎ (has_ended (r ∷ old) ≡ true)
      over_now (inl one) = inl (omega (arith, one))
      over_now (inr h) = by_epoch (is_epoch r.kind) refl
        where
          by_end : (x : Bool) → (not (is_epoch r.kind) && has_ended old) ≡ true → (x || (not (is_epoch r.kind) && has_ended old)) ≡ true
          by_end true y = refl
          by_end false y = y

          by_epoch : (x : Bool) → is_epoch r.kind ≡ x → (1 ≤ occurs answers n (r ∷ old)) ⊎ (has_ended (r ∷ old) ≡ true)
          by_epoch true e = not_both (has_ended old) (leads_open mode (Client k) old r r.kind (led r old j) e) h
          by_epoch false e = inr (by_end (ends r.kind) (λ i. not (e i) && h i))

  pub sooner_joined : (more sooner : List Record) → Joined (more ++ sooner) → Joined sooner
  sooner_joined [] sooner j = j
  sooner_joined (r ∷ more) sooner j = sooner_joined more sooner (older r (more ++ sooner) j)

  quiet_on : (n : Name) (more sooner : List Record) → Joined (more ++ sooner) → occurs answers n (more ++ sooner) ≤ 1 → Quiet n sooner → (occurs any n more ≡ 0) × Quiet n (more ++ sooner)
  quiet_on n [] sooner j few q = (refl, q)
  quiet_on n (r ∷ more) sooner j few q =
      let rest = quiet_on n more sooner (older r (more ++ sooner) j) (omega (arith, few)) q in
      let now = stays_quiet n r (more ++ sooner) j few rest.1 in
      (omega (arith, rest.0, ap one_if now.0), now.1)

  -- so no record of it comes any more
  pub complete : (n : Name) (more sooner : List Record) → Joined (more ++ sooner) → occurs answers n (more ++ sooner) ≤ 1 → 1 ≤ occurs gives_name n sooner → (note_due n sooner || answer_due n sooner) ≡ false → occurs any n more ≡ 0
  complete n more sooner j few given none =
      (quiet_on n more sooner j few (record { bears = occurs_bears gives_name n sooner given; none = none; over = by_took (zero_or_more (occurs is_took n sooner)) })).0
    where
      by_took : (occurs is_took n sooner ≡ 0) ⊎ (1 ≤ occurs is_took n sooner) → (1 ≤ occurs answers n sooner) ⊎ (has_ended sooner ≡ true)
      by_took (inl not_took) = inl (omega (arith, not_took, given, gives_kinds n sooner))
      by_took (inr one) =
          elim (owes n sooner (sooner_joined more sooner j) one) [ inl d ↦ not_both (answer_due n sooner) (or_parts (note_due n sooner) (answer_due n sooner) none).1 d | inr x ↦ x ]
