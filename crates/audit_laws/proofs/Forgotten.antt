-- What a run is done with it is done with for good.
use Rattle.std.proofs.Common.{ℕ, List, [], ◌∷◌, ◌++◌, ◌+◌, ◌≡◌, ◌≤◌, ◌&&◌, ◌||◌, ◌⊎◌, inl, inr, Bool, true, false, refl, sym, ◌∙◌, ap, subst, arith}
use Rattle.std.specs.Prelude.{if◌then◌else◌, ◌==◌, filter, map, reverse}
use Rattle.std.proofs.lemmas.Bool.{and_parts, eqb-true, or_parts}
use Rattle.std.proofs.lemmas.List.{reverse-append, reverse-reverse}
use Rattle.mux_history.specs.Bounds.{Bounds}
use Rattle.mux_history.specs.declared.name.Name.{Name}
use Rattle.mux_history.specs.declared.record.Record.{Record}
use Rattle.mux_history.specs.declared.kind.RecordKind.{RecordKind}
use Rattle.mux_history.specs.declared.kind.RecordKind.TheVariants.{Took, TookDrained, Retried, Settled as SettledWith, SettledNack, LostOne}
use Rattle.mux_history.specs.declared.session.InitMode.{InitMode}
use Rattle.mux_history.specs.declared.session.SessionId.{SessionId}
use Rattle.mux_history.specs.declared.session.SessionId.TheVariants.{Client, Server}
use Rattle.mux_history.specs.Readings.{answer_due, gives_name, is_epoch, is_named, is_offered, is_retried, note_due, present}
use Rattle.mux_agree.specs.Agree.{answers, is_lost_one, is_replied, is_settled, is_settled_nack}
use Rattle.mux_agree.specs.Walk.{IsFaultless, Kept, all_records, client_records, is_client, stops}
use Rattle.mux_model.specs.Down.{DownSession}
use Rattle.mux_model.specs.Up.{UpSession}
use Rattle.mux_model.specs.Events.{run}
use Rattle.mux_model.specs.Legal.{EachLine, Line, total}
use Rattle.mux_model.specs.Replay.{all_lead, are_histories, epochs, is_joined, may_follow, may_follow_up}
use Rattle.mux_model.specs.Runs.{lines}
use Rattle.mux_model.specs.Steps.{records}
use Rattle.mux_model.specs.World.{Reached, start, starts}
use Rattle.mux_model.proofs.Happens.{run_reached}
use Rattle.mux_legal.specs.KeptRuns.{history_of}
use Rattle.mux_legal.specs.RunsBearOut.{of_boot}
use Rattle.mux_legal.proofs.Basics.{one_if}
use Rattle.mux_legal.proofs.EndsOnce.{server_balance}
use Rattle.mux_legal.proofs.Invariant.{gifts_opened, is_unsent}
use Rattle.mux_legal.proofs.Kept.{records_follow}
use Rattle.mux_legal.proofs.OfBoot.{boot_all, boot_most, each_of_boot, each_then, has_one, total_count, zero_or_more}
use Rattle.mux_legal.proofs.RunsBorne.{runs_bear_out}
use Rattle.mux_legal.proofs.ToldEpochs.{each_epoch}
use Rattle.mux_legal.proofs.ToldHolders.{occurs}
use Rattle.mux_legal.proofs.ToldWalk.{IsNew, every_stop, occurs-append, once, replies_are, reverse-cons, times_occurs, total as count, total_all}
use Rattle.mux_legal.proofs.Worlds.{Keeps, reached_keeps}
use Rattle.rolling_audit.specs.declared.dues.Due.{Due}
use Rattle.rolling_audit.specs.declared.life.Life.{Life}
use Rattle.rolling_audit.specs.Histories.{longer}
use Rattle.rolling_audit.specs.Known.{AreBeginnings, EachIsDueBy, IsDueBy}
use Rattle.rolling_audit.specs.Lives.{is_done, is_ended_life, is_fine, is_note, is_settled as is_settled_life}
use Rattle.audit_laws.specs.Forgetting.{DoneForGood}
use Rattle.audit_laws.proofs.Complete.{bears_given, complete, note_balance, occurs_bears, sooner_joined}
use Rattle.audit_laws.proofs.Few.{map_stops}
use Rattle.audit_laws.proofs.Fit.{all_mine}
use Rattle.audit_laws.proofs.Named.{any}
use Rattle.audit_laws.proofs.Refused.{joined_lines}
use Rattle.audit_laws.proofs.Settled.{settled}

abbrev Counts : Type 0
Counts = (RecordKind → Bool) → ℕ

-- how often a name is counted where a part was taken, and in the whole: of what is done with the rest has none
record IsCut (part whole : Counts) : Type 0 where
  grows : (p : RecordKind → Bool) → part p ≤ whole p
  noted : part gives_name + part is_retried ≤ part is_note + part is_unsent
  ended : part is_replied + part is_lost_one ≤ part is_offered
  closes : whole answers ≤ 1 → whole gives_name ≤ part gives_name → whole is_retried ≤ part is_retried
  finishes : whole answers ≤ 1 → whole gives_name ≤ part gives_name → whole is_offered ≤ part is_replied + part is_lost_one → whole any ≤ part any

same_cut : (a w c v : Counts) → ((p : RecordKind → Bool) → c p ≡ a p) → ((p : RecordKind → Bool) → v p ≡ w p) → IsCut a w → IsCut c v
same_cut a w c v e f x = record {
  grows = λ p. omega (arith, x.grows p, e p, f p);
  noted = omega (arith, x.noted, e gives_name, e is_retried, e is_note, e is_unsent);
  ended = omega (arith, x.ended, e is_replied, e is_lost_one, e is_offered);
  closes = λ few given. (let r = x.closes (omega (arith, few, f answers)) (omega (arith, given, e gives_name, f gives_name)) in omega (arith, r, e is_retried, f is_retried));
  finishes = λ few given sent.
      (let r = x.finishes (omega (arith, few, f answers)) (omega (arith, given, e gives_name, f gives_name)) (omega (arith, sent, f is_offered, e is_replied, e is_lost_one)) in
      omega (arith, r, e any, f any));
}

both_cut : (a w c v : Counts) → IsCut a w → IsCut c v → IsCut (λ p. a p + c p) (λ p. w p + v p)
both_cut a w c v x y = record {
  grows = λ p. omega (arith, x.grows p, y.grows p);
  noted = omega (arith, x.noted, y.noted);
  ended = omega (arith, x.ended, y.ended);
  closes = λ few given.
      (let r = x.closes (omega (arith, few)) (omega (arith, given, y.grows gives_name)) in
      let s = y.closes (omega (arith, few)) (omega (arith, given, x.grows gives_name)) in
      omega (arith, r, s));
  finishes = λ few given sent.
      (let r = x.finishes (omega (arith, few)) (omega (arith, given, y.grows gives_name)) (omega (arith, sent, y.ended, y.grows is_offered)) in
      let s = y.finishes (omega (arith, few)) (omega (arith, given, x.grows gives_name)) (omega (arith, sent, x.ended, x.grows is_offered)) in
      omega (arith, r, s));
}

pub occurs-reverse : (p : RecordKind → Bool) (n : Name) (rs : List Record) → occurs p n (reverse rs) ≡ occurs p n rs
occurs-reverse p n [] = refl
occurs-reverse p n (r ∷ rs) = omega (arith, ap (occurs p n) (reverse-cons r rs), occurs-append p n (reverse rs) (r ∷ []), occurs-reverse p n rs)

one_within : (a b : Bool) → one_if (a && b) ≤ one_if (true && b)
one_within true b = omega arith
one_within false b = omega arith

occurs_any : (p : RecordKind → Bool) (n : Name) (rs : List Record) → occurs p n rs ≤ occurs any n rs
occurs_any p n [] = omega arith
occurs_any p n (r ∷ rs) = omega (arith, one_within (p r.kind) (is_named n r.name), occurs_any p n rs)

-- kinds that one side's lists don't have
down_kinds : (c : DownSession) (past : List Record) (r : Record) (k : RecordKind) → may_follow c past r k ≡ true → (is_replied k ≡ false) × (is_lost_one k ≡ false)
down_kinds c past r (SettledWith x) m = absurd (cc)
down_kinds c past r SettledNack m = absurd (cc)
down_kinds c past r LostOne m = absurd (cc)
down_kinds c past r _ m = (refl, refl)

up_kinds : (s : UpSession) (past : List Record) (r : Record) (k : RecordKind) → may_follow_up s past r k ≡ true → (gives_name k ≡ false) × (is_retried k ≡ false)
up_kinds s past r Took m = absurd (cc)
up_kinds s past r TookDrained m = absurd (cc)
up_kinds s past r Retried m = absurd (cc)
up_kinds s past r _ m = (refl, refl)

module _ (limits : Bounds) (b k : ℕ) (mode : InitMode) (n : Name) where
  no_ends : (rs : List Record) → are_histories limits b mode (Client k) (epochs rs) ≡ true → occurs is_replied n rs + occurs is_lost_one n rs ≡ 0
  no_ends [] h = omega arith
  no_ends (r ∷ old) h =
      let a = each_epoch limits b mode (Client k) r old h in
      let x = down_kinds (record { limits = limits; boot = b; number = k }) (if is_epoch r.kind then [] else present old) r r.kind (and_parts _ _ (and_parts _ _ a.0).0).0 in
      omega (
        arith,
        no_ends old a.1,
        ap (λ y. one_if (y && is_named n r.name)) x.0,
        ap (λ y. one_if (y && is_named n r.name)) x.1,
      )

  pub no_gifts : (rs : List Record) → are_histories limits b mode (Server k) (epochs rs) ≡ true → occurs gives_name n rs + occurs is_retried n rs ≡ 0
  no_gifts [] h = omega arith
  no_gifts (r ∷ old) h =
      let a = each_epoch limits b mode (Server k) r old h in
      let x = up_kinds (record { limits = limits; number = k; mode = mode }) (if is_epoch r.kind then [] else present old) r r.kind (and_parts _ _ (and_parts _ _ a.0).0).0 in
      omega (
        arith,
        no_gifts old a.1,
        ap (λ y. one_if (y && is_named n r.name)) x.0,
        ap (λ y. one_if (y && is_named n r.name)) x.1,
      )

  abbrev of : List Record → Counts
  of rs p = occurs p n rs

  -- a list that doesn't bear the name
  none_cut : (more sooner : List Record) → occurs any n (more ++ sooner) ≡ 0 → IsCut (of sooner) (of (more ++ sooner))
  none_cut more sooner z = record {
    grows = λ p. omega (arith, occurs-append p n more sooner);
    noted = omega (arith, z, occurs_any gives_name n sooner, occurs_any is_retried n sooner, occurs-append any n more sooner);
    ended = omega (arith, z, occurs_any is_replied n sooner, occurs_any is_lost_one n sooner, occurs-append any n more sooner);
    closes = λ few given. omega (arith, z, occurs_any is_retried n (more ++ sooner));
    finishes = λ few given sent. omega (arith, z);
  }

  client_cut : (more sooner : List Record) → is_joined limits b mode (Client k) (more ++ sooner) ≡ true →
      (n.client ≡ k → (note_due n sooner ≡ false) × (answer_due n sooner ≡ false)) → IsCut (of sooner) (of (more ++ sooner))
  client_cut more sooner h due = by_count (zero_or_more (occurs any n (more ++ sooner)))
    where
      joined : (are_histories limits b mode (Client k) (epochs (more ++ sooner)) ≡ true) × (all_lead mode (Client k) (more ++ sooner) ≡ true)
      joined = and_parts _ _ h

      earlier : (are_histories limits b mode (Client k) (epochs sooner) ≡ true) × (all_lead mode (Client k) sooner ≡ true)
      earlier = sooner_joined limits b k mode more sooner joined

      named_cut : 1 ≤ occurs any n (more ++ sooner) → IsCut (of sooner) (of (more ++ sooner))
      named_cut one =
          let bears = occurs_bears any n (more ++ sooner) one in
          let none = due (all_mine limits b k mode (more ++ sooner) joined.0 n bears).1 in
          let given = bears_given limits b k mode n (more ++ sooner) joined bears in
          let owed : (note_due n sooner || answer_due n sooner) ≡ false = (λ i. none.0 i || none.1 i) in
          record {
            grows = λ p. omega (arith, occurs-append p n more sooner);
            noted = omega (arith, note_balance limits b k mode n sooner earlier, ap one_if none.0);
            ended = omega (arith, no_ends sooner earlier.0);
            closes = λ few gifts.
                (let done = complete limits b k mode n more sooner joined few (omega (arith, given, gifts)) owed in
                omega (arith, done, occurs_any is_retried n more, occurs-append is_retried n more sooner));
            finishes = λ few gifts sent.
                (let done = complete limits b k mode n more sooner joined few (omega (arith, given, gifts)) owed in
                omega (arith, done, occurs-append any n more sooner));
          }

      by_count : (occurs any n (more ++ sooner) ≡ 0) ⊎ (1 ≤ occurs any n (more ++ sooner)) → IsCut (of sooner) (of (more ++ sooner))
      by_count (inl z) = none_cut more sooner z
      by_count (inr one) = named_cut one

  earlier_up : (more sooner : List Record) → are_histories limits b mode (Server k) (epochs (more ++ sooner)) ≡ true → are_histories limits b mode (Server k) (epochs sooner) ≡ true
  earlier_up [] sooner h = h
  earlier_up (r ∷ more) sooner h = earlier_up more sooner (each_epoch limits b mode (Server k) r (more ++ sooner) h).1

  server_cut : (more sooner : List Record) → are_histories limits b mode (Server k) (epochs (more ++ sooner)) ≡ true → IsCut (of sooner) (of (more ++ sooner))
  server_cut more sooner h =
      let before = earlier_up more sooner h in
      record {
        grows = λ p. omega (arith, occurs-append p n more sooner);
        noted = omega (arith, no_gifts sooner before);
        ended = omega (arith, server_balance n limits b mode k sooner before);
        closes = λ few given. omega (arith, no_gifts (more ++ sooner) h);
        finishes = λ few given sent.
            (let done = settled limits b k mode n more sooner h sent in
            omega (arith, done, occurs-append any n more sooner));
      }

-- EACH LIST

line_cut : (limits : Bounds) (n : Name) (due : Due) (b : ℕ) (mode : InitMode) (id : SessionId) (more sooner : List Record) → is_joined limits b mode id (more ++ sooner) ≡ true →
    (id ≡ Client n.client → (note_due n sooner ≡ due.note) × (answer_due n sooner ≡ due.answer)) → (due.note ≡ false) × (due.answer ≡ false) → IsCut (λ p. occurs p n sooner) (λ p. occurs p n (more ++ sooner))
line_cut limits n due b mode (Client k) more sooner h by none =
    client_cut limits b k mode n more sooner h (λ e. (let x = by (ap Client (sym e)) in (x.0 ∙ none.0, x.1 ∙ none.1)))
line_cut limits n due b mode (Server k) more sooner h by none = server_cut limits b k mode n more sooner (and_parts _ _ h).0

abbrev pub JoinedLine : Bounds → Line → Type 0
JoinedLine limits l = is_joined limits l.boot l.mode l.session (records l.steps) ≡ true

cut_of : (limits : Bounds) (n : Name) (due : Due) (l : Line) (t : Kept) (later : List Record) → longer t later ≡ history_of l → JoinedLine limits l → IsDueBy n due t → (due.note ≡ false) × (due.answer ≡ false) →
    IsCut (λ p. occurs p n t.records) (λ p. occurs p n (reverse (records l.steps)))
cut_of limits n due l t later e joined by none =
    same_cut (λ p. occurs p n (reverse t.records)) (λ p. occurs p n (reverse later ++ reverse t.records)) (λ p. occurs p n t.records) (λ p. occurs p n (reverse (records l.steps)))
    (λ p. sym (occurs-reverse p n t.records)) (λ p. occurs-reverse p n (records l.steps) ∙ ap (occurs p n) (sym parts))
    (line_cut limits n due l.boot l.mode l.session (reverse later) (reverse t.records) (subst (λ rs. is_joined limits l.boot l.mode l.session rs ≡ true) (sym parts) joined)
    (λ is. by (ap (λ (h : Kept). h.session) e ∙ is)) none)
  where
    parts : reverse later ++ reverse t.records ≡ records l.steps
    parts = sym (reverse-append t.records later) ∙ (ap (λ (h : Kept). reverse h.records) e ∙ reverse-reverse (records l.steps))

all_cut : (limits : Bounds) (n : Name) (due : Due) (taken : List Kept) (ls : List Line) → AreBeginnings taken (map history_of ls) → EachLine (JoinedLine limits) ls → EachIsDueBy n due taken → (due.note ≡ false) × (due.answer ≡ false) →
    IsCut (λ p. occurs p n (all_records taken)) (λ p. occurs p n (all_records (map history_of ls)))
all_cut limits n due [] [] begun joined by none =
    record { grows = λ p. omega arith; noted = omega arith; ended = omega arith; closes = λ few given. omega arith; finishes = λ few given sent. omega arith }
all_cut limits n due [] (l ∷ ls) begun joined by none = absurd begun
all_cut limits n due (t ∷ ts) [] begun joined by none = absurd begun
all_cut limits n due (t ∷ ts) (l ∷ ls) begun joined by none =
    same_cut (λ p. occurs p n t.records + occurs p n (all_records ts)) (λ p. occurs p n (reverse (records l.steps)) + occurs p n (all_records (map history_of ls)))
    (λ p. occurs p n (t.records ++ all_records ts)) (λ p. occurs p n (reverse (records l.steps) ++ all_records (map history_of ls)))
    (λ p. occurs-append p n t.records (all_records ts)) (λ p. occurs-append p n (reverse (records l.steps)) (all_records (map history_of ls)))
    (both_cut (λ p. occurs p n t.records) (λ p. occurs p n (reverse (records l.steps))) (λ p. occurs p n (all_records ts)) (λ p. occurs p n (all_records (map history_of ls)))
    (cut_of limits n due l t begun.0.0 begun.0.1 joined.0 by.0 none) (all_cut limits n due ts ls begun.1 joined.1 by.1 none))

-- what clients told is told
pub of_clients : (p : RecordKind → Bool) (n : Name) (ts : List Kept) → occurs p n (client_records ts) ≤ occurs p n (all_records ts)
of_clients p n [] = omega arith
of_clients p n (t ∷ ts) = by_side (is_client t.session) (of_clients p n ts)
  where
    by_side : (x : Bool) → occurs p n (client_records ts) ≤ occurs p n (all_records ts) →
        occurs p n (all_records (if x then t ∷ filter (λ h. is_client h.session) ts else filter (λ h. is_client h.session) ts)) ≤ occurs p n (t.records ++ all_records ts)
    by_side true h = omega (arith, h, occurs-append p n t.records (client_records ts), occurs-append p n t.records (all_records ts))
    by_side false h = omega (arith, h, occurs-append p n t.records (all_records ts))

-- a name that a list of a client bears is of the list's boot
pub line_boot : (limits : Bounds) (n : Name) (p : RecordKind → Bool) → ((k : RecordKind) → p k ≡ true → (gives_name k || is_retried k) ≡ true) → (l : Line) → JoinedLine limits l → 1 ≤ occurs p n (records l.steps) → n.boot ≡ l.boot
line_boot limits n p kinds l joined one = by_session l.session joined
  where
    within : (rs : List Record) → occurs p n rs ≤ occurs gives_name n rs + occurs is_retried n rs
    within [] = omega arith
    within (r ∷ rs) = omega (arith, by_kind (p r.kind) (gives_name r.kind) (is_retried r.kind) (is_named n r.name) (kinds r.kind), within rs)
      where
        by_kind : (x g a is : Bool) → (x ≡ true → (g || a) ≡ true) → one_if (x && is) ≤ one_if (g && is) + one_if (a && is)
        by_kind false g a is h = omega arith
        by_kind true true a is h = omega arith
        by_kind true false true is h = omega arith
        by_kind true false false is h = absurd (let x = h refl in cc)

    by_session : (id : SessionId) → is_joined limits l.boot l.mode id (records l.steps) ≡ true → n.boot ≡ l.boot
    by_session (Client k) j = (all_mine limits l.boot k l.mode (records l.steps) (and_parts _ _ j).0 n (occurs_bears p n (records l.steps) one)).0
    by_session (Server k) j = absurd (omega (arith, one, within (records l.steps), no_gifts limits l.boot k l.mode n (records l.steps) (and_parts _ _ j).0))

boot_is : (limits : Bounds) (n : Name) (b : ℕ) (ls : List Line) → EachLine (λ l. (l.boot ≡ b) × JoinedLine limits l) ls → 1 ≤ count gives_name n ls → n.boot ≡ b
boot_is limits n b [] each one = absurd (omega (arith, one))
boot_is limits n b (l ∷ ls) each one =
    elim (zero_or_more (occurs gives_name n (records l.steps))) [
      | inl z ↦ boot_is limits n b ls each.1 (omega (arith, one, z))
      | inr x ↦ line_boot limits n gives_name (λ k e. ap (λ y. y || is_retried k) e) l each.0.1 x ∙ each.0.0
    ]

-- what a life that is done with says
record IsOverFor (l : Life) : Type 0 where
  none : (l.due.note ≡ false) × (l.due.answer ≡ false)
  sent : l.trace.offered ≡ l.noted
  ended : l.trace.settled + l.trace.nacked_back + l.lost ≡ l.trace.offered
  taken : l.trace.taken ≡ true

done_says : (l : Life) → is_done l ≡ true → IsOverFor l
done_says l h = by_due (l.due.note || l.due.answer) refl (and_parts _ _ a.0).0
  where
    a : (is_settled_life l && is_ended_life l ≡ true) × (is_fine l ≡ true)
    a = and_parts _ _ h

    by_due : (x : Bool) → (l.due.note || l.due.answer) ≡ x → (if x then false else l.trace.offered == l.noted && l.trace.settled + l.trace.nacked_back + l.lost == l.trace.offered) ≡ true → IsOverFor l
    by_due true e s = absurd (cc)
    by_due false e s =
        (let both = and_parts _ _ s in
        record {
          none = or_parts l.due.note l.due.answer e;
          sent = eqb-true l.trace.offered l.noted both.0;
          ended = eqb-true (l.trace.settled + l.trace.nacked_back + l.lost) l.trace.offered both.1;
          taken = (and_parts _ _ (and_parts _ _ a.0).1).0;
        })

pub done_for_good : DoneForGood
done_for_good limits boot events free b taken begun n l life by done =
    let w = run (start limits boot) events in
    let ls = lines w.connections in
    let ms = of_boot b ls in
    let hs = map history_of ms in
    let r : Reached w = run_reached (start limits boot) events free (starts limits boot) in
    let v : Keeps w = reached_keeps r in
    let over = done_says l done in
    let joined : EachLine (JoinedLine limits) ls = joined_lines limits w.connections (records_follow limits boot events free) in
    let here : EachLine (λ x. (x.boot ≡ b) × JoinedLine limits x) ms = each_of_boot (JoinedLine limits) (λ x. (x.boot ≡ b) × JoinedLine limits x) b (λ x e f. (e, f)) ls joined in
    let each : EachLine (JoinedLine limits) ms = each_of_boot (JoinedLine limits) (JoinedLine limits) b (λ x e f. f) ls joined in
    let cut : IsCut (λ p. occurs p n (all_records taken)) (λ p. occurs p n (all_records hs)) = all_cut limits n l.due taken ms begun each by over.none in
    let borne = every_stop (IsFaultless (client_records hs) (all_records hs)) (stops [] hs) (runs_bear_out limits boot events free b) in
    let new = map_stops (IsFaultless (client_records hs) (all_records hs)) (IsNew answers) (λ s f. f.answered_once) (stops [] hs) borne in
    let answered : occurs answers n (all_records hs) ≤ 1 = once answers n hs new in
    let gave : 1 ≤ occurs gives_name n (all_records taken) = omega (arith, has_one gives_name n (client_records taken) (life.trace.taken ∙ over.taken), of_clients gives_name n taken) in
    let one : total gives_name n ls ≤ 1 = omega (arith, gifts_opened n ls v.own, v.unique n.boot (Client n.client)) in
    let gifts : occurs gives_name n (all_records hs) ≤ occurs gives_name n (all_records taken) = omega (arith, gave, one, total_all gives_name n ms, boot_most gives_name n b ls, total_count gives_name n ls) in
    let boots : n.boot ≡ b = boot_is limits n b ms here (omega (arith, gave, cut.grows gives_name, total_all gives_name n ms)) in
    let retries : count is_retried n ls ≤ count is_retried n ms
    = boot_all is_retried n b ls (each_then (JoinedLine limits) (λ x. 1 ≤ occurs is_retried n (records x.steps) → x.boot ≡ b) (λ x j h. sym (line_boot limits n is_retried again x j h) ∙ boots) ls joined) in
    let closed : occurs is_retried n (all_records hs) ≤ occurs is_retried n (all_records taken) = cut.closes answered gifts in
    let linear : total is_offered n ls + total is_unsent n ls ≤ total gives_name n ls + total is_retried n ls = omega (arith, v.linear n) in
    let replied = replies_are n (all_records taken) in
    let ends : occurs is_replied n (all_records taken) + occurs is_lost_one n (all_records taken) ≡ occurs is_note n (all_records taken) = omega (
      arith,
      replied,
      over.sent,
      over.ended,
      life.trace.offered,
      life.trace.settled,
      life.trace.nacked_back,
      life.noted,
      life.lost,
      times_occurs is_note n (all_records taken),
      times_occurs is_settled n (all_records taken),
      times_occurs is_settled_nack n (all_records taken),
      times_occurs is_lost_one n (all_records taken),
    ) in
    let sent : occurs is_offered n (all_records hs) ≤ occurs is_replied n (all_records taken) + occurs is_lost_one n (all_records taken) = omega (
      arith,
      linear,
      one,
      gave,
      ends,
      cut.noted,
      closed,
      retries,
      cut.grows is_unsent,
      total_all is_offered n ms,
      total_all is_unsent n ms,
      total_all is_retried n ms,
      boot_most is_offered n b ls,
      boot_most is_unsent n b ls,
      total_count is_offered n ls,
      total_count is_unsent n ls,
      total_count is_retried n ls,
    ) in
    let whole : occurs any n (all_records hs) ≤ occurs any n (all_records taken) = cut.finishes answered gifts sent in
    omega (arith, whole, cut.grows any, times_occurs any n (all_records taken), times_occurs any n (all_records hs))
  where
    again : (k : RecordKind) → is_retried k ≡ true → (gives_name k || is_retried k) ≡ true
    again Retried e = refl
    again _ e = absurd (cc)
