-- What is known of each dispatch, one record further and one session further.
use Rattle.std.proofs.Common.{ℕ, List, [], ◌∷◌, ◌++◌, ◌+◌, ◌≡◌, ◌==◌, ◌≤◌, ◌&&◌, ◌||◌, Bool, true, false, cond, refl, sym, ◌∙◌, ap, subst, arith, Option, Some, None, append_assoc, true≢false}
use Rattle.std.specs.Prelude.{filter, if◌then◌else◌, not, reverse}
use Rattle.std.proofs.lemmas.Bool.{eqb-true, not-false, or_parts}
use Rattle.std.proofs.lemmas.List.{append-nil, reverse-append}
use Rattle.std.proofs.lemmas.List.Sums.{sum_by-cons}
use Rattle.mux_history.specs.declared.name.Name.{Name}
use Rattle.mux_history.specs.declared.record.Record.{Record}
use Rattle.mux_history.specs.declared.kind.RecordKind.{RecordKind}
use Rattle.mux_history.specs.declared.kind.RecordKind.TheVariants as kinds
use Rattle.mux_history.specs.declared.session.InitMode.{InitMode}
use Rattle.mux_history.specs.declared.session.SessionId.{SessionId}
use Rattle.mux_history.specs.declared.session.SessionId.TheVariants.{Client, Server}
use Rattle.mux_history.specs.Holders.{of_named}
use Rattle.mux_history.specs.Readings.{answer_due, is_epoch, is_named, note_due}
use Rattle.mux_agree.specs.Agree.{times}
use Rattle.mux_agree.specs.Walk.{Kept, all_records, client_records, is_client}
use Rattle.mux_agree.proofs.Counts.{times-append}
use Rattle.rolling_audit.specs.declared.dues.Due.{Due}
use Rattle.rolling_audit.specs.declared.life.Life.{Life}
use Rattle.rolling_audit.specs.Counted.{joined_if, one}
use Rattle.rolling_audit.specs.Dues.{due_after, due_behind, none_due}
use Rattle.rolling_audit.specs.Faults.{is_of_other_client}
use Rattle.rolling_audit.specs.Histories.{behind, kept_of, longer, same_session, unwritten}
use Rattle.rolling_audit.specs.Known.{AreBeginnings, AreKnown, AreSingle, CameLate, ClientsChangeDue, EachIsDueBy, IsDueBy, Knows, TellsAll, changes_due, due_told, late as came_late, over as is_over, unmet, whole as tells_whole}
use Rattle.rolling_audit.specs.Lives.{IsLife, LivesOn, is_done, no_life}
use Rattle.rolling_audit.specs.Stands.{NothingWaits}
use Rattle.rolling_audit.specs.Steps.{AllGoOn, LivesOnAs, dropped, kept}
use Rattle.rolling_audit.specs.Taken.{life_or}
use Rattle.rolling_audit.proofs.Behinds.{client_times_behind, kept_behind, kept_other, same_is, same_own, times_behind}
use Rattle.rolling_audit.proofs.Counting.{bare_life, relife}
use Rattle.rolling_audit.proofs.Counts.{own_name, same_names}
use Rattle.rolling_audit.proofs.Stands.{due_next}

-- WHAT IS DUE

due_kept : (k : RecordKind) (d : Due) → changes_due k ≡ false → due_after k d ≡ d
due_kept kinds.Took d e = absurd (cc)
due_kept (kinds.Noted x) d e = absurd (cc)
due_kept kinds.Passed d e = absurd (cc)
due_kept kinds.Retried d e = absurd (cc)
due_kept kinds.Nacked d e = absurd (cc)
due_kept kinds.Unrouted d e = absurd (cc)
due_kept kinds.Failed d e = absurd (cc)
due_kept (kinds.Late x) d e = absurd (cc)
due_kept _ d e = refl

epoch_due : (k : RecordKind) (d : Due) → is_epoch k ≡ true → due_after k d ≡ d
epoch_due (kinds.Epoch number standing) d e = refl
epoch_due _ d e = absurd (cc)

nothing_due : (a b : Bool) → (a || b) ≡ false → record { note = a; answer = b } ≡ none_due
nothing_due a b e = (let parts = or_parts a b e in λ i. record { note = parts.0 i; answer = parts.1 i })

-- clients' records are some of all
of_clients : (p : RecordKind → Bool) (n : Name) (hs : List Kept) → times p n (client_records hs) ≤ times p n (all_records hs)
of_clients p n [] = omega arith
of_clients p n (h ∷ hs) = by_side (is_client h.session) (of_clients p n hs)
  where
    by_side : (b : Bool) → times p n (client_records hs) ≤ times p n (all_records hs) →
        times p n (all_records (if b then h ∷ filter (λ g. is_client g.session) hs else filter (λ g. is_client g.session) hs)) ≤ times p n (h.records ++ all_records hs)
    by_side true few = omega (arith, few, times-append p n h.records (client_records hs), times-append p n h.records (all_records hs))
    by_side false few = omega (arith, few, times-append p n h.records (all_records hs))

times_here : (p : RecordKind → Bool) (n : Name) (r : Record) → times p n (r ∷ []) ≡ one (p r.kind && is_named n r.name)
times_here p n r = sum_by-cons (λ x. cond (p x.kind && is_named n x.name) 1 0) r [] ∙ by_test (p r.kind && is_named n r.name)
  where
    by_test : (b : Bool) → cond b 1 0 + 0 ≡ one b
    by_test true = refl
    by_test false = refl

is_of : (n : Name) (k : ℕ) (o : Option Name) → o ≡ Some n → of_named (λ m. not (m.client == k)) o ≡ false → Client n.client ≡ Client k
is_of n k o is mine = ap Client (eqb-true n.client k (not-false (n.client == k) (sym (ap (of_named (λ m. not (m.client == k))) is) ∙ mine)))

-- A CLIENT'S HISTORY IS ONE

none_behind : (q id : SessionId) (rs : List Record) (hs : List Kept) → kept_of q hs ≡ None → kept_of q (behind id rs hs) ≡ None
none_behind q id rs [] none = refl
none_behind q id rs (g ∷ hs) none = by_it (same_session g.session q) refl none (none_behind q id rs hs)
  where
    by_place : (b : Bool) → same_session g.session q ≡ false → kept_of q hs ≡ None → kept_of q (behind id rs hs) ≡ None → kept_of q (if b then longer g rs ∷ hs else g ∷ behind id rs hs) ≡ None
    by_place true e none further = ap (λ c. if c then Some (longer g rs) else kept_of q hs) e ∙ none
    by_place false e none further = ap (λ c. if c then Some g else kept_of q (behind id rs hs)) e ∙ further

    by_it : (b : Bool) → same_session g.session q ≡ b → (if b then Some g else kept_of q hs) ≡ None → (kept_of q hs ≡ None → kept_of q (behind id rs hs) ≡ None) →
        kept_of q (if same_session g.session id then longer g rs ∷ hs else g ∷ behind id rs hs) ≡ None
    by_it true e none further = absurd (let no : ◌≡◌ {A = Option Kept} (Some g) None = none in cc no)
    by_it false e none further = by_place (same_session g.session id) e none (further none)

single_behind : (id : SessionId) (rs : List Record) (hs : List Kept) → AreSingle hs → AreSingle (behind id rs hs)
single_behind id rs [] s = tt
single_behind id rs (g ∷ hs) s = by_place (same_session g.session id) (single_behind id rs hs s.1)
  where
    by_place : (b : Bool) → AreSingle (behind id rs hs) → AreSingle (if b then longer g rs ∷ hs else g ∷ behind id rs hs)
    by_place true rest = s
    by_place false rest = (λ c. none_behind g.session id rs hs (s.0 c), rest)

-- so what is due by it is due by each
due_of_none : (n : Name) (d : Due) (hs : List Kept) → kept_of (Client n.client) hs ≡ None → EachIsDueBy n d hs
due_of_none n d [] none = tt
due_of_none n d (h ∷ hs) none = by_it (same_session h.session (Client n.client)) refl none (due_of_none n d hs)
  where
    by_it : (b : Bool) → same_session h.session (Client n.client) ≡ b → (if b then Some h else kept_of (Client n.client) hs) ≡ None →
        (kept_of (Client n.client) hs ≡ None → EachIsDueBy n d hs) → IsDueBy n d h × EachIsDueBy n d hs
    by_it true e none rest = absurd (let no : ◌≡◌ {A = Option Kept} (Some h) None = none in cc no)
    by_it false e none rest = (λ is. absurd (true≢false (sym (ap (λ s. same_session s (Client n.client)) is ∙ same_own (Client n.client)) ∙ e)), rest none)

each_due : (n : Name) (d : Due) (hs : List Kept) → AreSingle hs → d ≡ due_told n (kept_of (Client n.client) hs) → EachIsDueBy n d hs
each_due n d [] s is = tt
each_due n d (h ∷ hs) s is = by_it (same_session h.session (Client n.client)) refl is (each_due n d hs s.1)
  where
    by_it : (b : Bool) → same_session h.session (Client n.client) ≡ b → d ≡ due_told n (if b then Some h else kept_of (Client n.client) hs) →
        (d ≡ due_told n (kept_of (Client n.client) hs) → EachIsDueBy n d hs) → IsDueBy n d h × EachIsDueBy n d hs
    by_it true e is rest =
        let it : h.session ≡ Client n.client = same_is h.session (Client n.client) e in (
          λ x. (ap (λ (x : Due). x.note) (sym is), ap (λ (x : Due). x.answer) (sym is)),
          due_of_none n d hs (subst (λ q. kept_of q hs ≡ None) it (s.0 (ap is_client it))),
        )
    by_it false e is rest = (λ x. absurd (true≢false (sym (ap (λ s. same_session s (Client n.client)) x ∙ same_own (Client n.client)) ∙ e)), rest is)

-- BEGINNINGS

begin_own : (hs : List Kept) → AreBeginnings hs hs
begin_own [] = tt
begin_own (h ∷ hs) = (([], ap (λ l. record { session = h.session; mode = h.mode; records = l }) (append-nil h.records)), begin_own hs)

begin_behind : (id : SessionId) (rs : List Record) (ts hs : List Kept) → AreBeginnings ts hs → AreBeginnings ts (behind id rs hs)
begin_behind id rs [] [] b = tt
begin_behind id rs [] (h ∷ hs) b = absurd b
begin_behind id rs (t ∷ ts) [] b = absurd b
begin_behind id rs (t ∷ ts) (h ∷ hs) b = by_place (same_session h.session id) (begin_behind id rs ts hs b.1)
  where
    by_place : (x : Bool) → AreBeginnings ts (behind id rs hs) → AreBeginnings (t ∷ ts) (if x then longer h rs ∷ hs else h ∷ behind id rs hs)
    by_place true rest = (
      (
        b.0.0 ++ rs,
        ap (λ l. record { session = t.session; mode = t.mode; records = l }) (sym (append_assoc t.records b.0.0 rs)) ∙ ap (λ (x : Kept). longer x rs) b.0.1,
      ),
      b.1,
    )
    by_place false rest = (b.0, rest)

-- ONE RECORD FURTHER

module _ (id : SessionId) (r : Record) (lives more : Name → Option Life) (goes : AllGoOn lives (is_client id) r more)
    (hs : List Kept) (h : Kept) (at : kept_of id hs ≡ Some h) (own : is_of_other_client id r ≡ false)
    (rested : is_epoch r.kind ≡ true → NothingWaits id (reverse h.records)) (used : ℕ → Bool) (a : AreKnown hs lives used) (n : Name) where
  abbrev his : SessionId
  his = Client n.client

  abbrev next : List Kept
  next = behind id (r ∷ []) hs

  all_times : (p : RecordKind → Bool) → times p n (all_records next) ≡ times p n (all_records hs) + times p n (r ∷ [])
  all_times p = times_behind id (r ∷ []) p n hs h at

  client_times : (p : RecordKind → Bool) → times p n (client_records next) ≡ times p n (client_records hs) + (if is_client id then times p n (r ∷ []) else 0)
  client_times p = client_times_behind id (r ∷ []) p n hs h at

  -- no server's record changed what is due before
  changed_before : ClientsChangeDue n next → ClientsChangeDue n hs
  changed_before c = by_side (is_client id) (sym (client_times changes_due) ∙ (c ∙ all_times changes_due))
    where
      by_side : (b : Bool) → times changes_due n (client_records hs) + (if b then times changes_due n (r ∷ []) else 0) ≡ times changes_due n (all_records hs) + times changes_due n (r ∷ []) →
          times changes_due n (client_records hs) ≡ times changes_due n (all_records hs)
      by_side true e = omega (arith, e)
      by_side false e = omega (arith, e, of_clients changes_due n hs)

  servers_leave : is_client id ≡ false → is_named n r.name ≡ true → ClientsChangeDue n next → changes_due r.kind ≡ false
  servers_leave side is c =
      by_kind (changes_due r.kind) (is_named n r.name) is
      (let e : times changes_due n (client_records hs) + 0 ≡ times changes_due n (all_records hs) + times changes_due n (r ∷ [])
      = ap (λ b. times changes_due n (client_records hs) + (if b then times changes_due n (r ∷ []) else 0)) (sym side) ∙ (sym (client_times changes_due) ∙ (c ∙ all_times changes_due)) in
      omega (arith, e, of_clients changes_due n hs, times_here changes_due n r))
    where
      by_kind : (x b : Bool) → b ≡ true → one (x && b) ≤ 0 → x ≡ false
      by_kind false b is few = refl
      by_kind true true is few = absurd (omega (arith, few))
      by_kind true false is few = absurd (cc is)

  abbrev after : Due → Due
  after d = if is_named n r.name then due_after r.kind d else d

  -- what is due of the name, by the history of its client
  due_on : (d : Due) → ClientsChangeDue n next → d ≡ due_told n (kept_of his hs) → after d ≡ due_told n (kept_of his next)
  due_on d c is = by_it (same_session id his) refl
    where
      of_it : id ≡ his → after d ≡ due_told n (kept_of id next)
      of_it it =
          by_epoch (is_epoch r.kind) refl
          ∙ (due_next (reverse h.records) r n (due_told n (Some h)) refl
          ∙ (ap (λ l. record { note = note_due n l; answer = answer_due n l }) (sym (reverse-append h.records (r ∷ []))) ∙ ap (due_told n) (sym (kept_behind id (r ∷ []) hs h at))))
        where
          was : d ≡ due_told n (Some h)
          was = is ∙ ap (due_told n) (ap (λ q. kept_of q hs) (sym it) ∙ at)

          stays : is_epoch r.kind ≡ true → (b : Bool) → (if b then due_after r.kind d else d) ≡ d
          stays e true = epoch_due r.kind d e
          stays e false = refl

          by_epoch : (b : Bool) → is_epoch r.kind ≡ b → after d ≡ due_behind r n (due_told n (Some h))
          by_epoch true e =
              let waits : NothingWaits his (reverse h.records) = subst (λ q. NothingWaits q (reverse h.records)) it (rested e) in
              stays e (is_named n r.name)
              ∙ (was ∙ (nothing_due (note_due n (reverse h.records)) (answer_due n (reverse h.records)) (waits n)
              ∙ sym (ap (λ b. if b then none_due else if is_named n r.name then due_after r.kind (due_told n (Some h)) else due_told n (Some h)) e)))
          by_epoch false e =
              ap after was ∙ sym (ap (λ b. if b then none_due else if is_named n r.name then due_after r.kind (due_told n (Some h)) else due_told n (Some h)) e)

      by_it : (b : Bool) → same_session id his ≡ b → after d ≡ due_told n (kept_of his next)
      by_it true e = (let it = same_is id his e in of_it it ∙ ap (λ q. due_told n (kept_of q next)) it)
      by_it false e = by_name (is_named n r.name) refl ∙ (is ∙ ap (due_told n) (sym (kept_other id (r ∷ []) his e hs)))
        where
          by_side : (q : SessionId) → id ≡ q → same_session q his ≡ false → is_of_other_client q r ≡ false → is_named n r.name ≡ true → is_client id ≡ false
          by_side (Server k) it off mine named = ap is_client it
          by_side (Client k) it off mine named =
              absurd (true≢false (sym (same_own his) ∙ (ap (λ q. same_session q his) (is_of n k r.name (name_is r.name named) mine) ∙ off)))
            where
              name_is : (o : Option Name) → is_named n o ≡ true → o ≡ Some n
              name_is None e = absurd (cc e)
              name_is (Some m) e = ap Some (same_names m n e)

          by_name : (b : Bool) → is_named n r.name ≡ b → (if b then due_after r.kind d else d) ≡ d
          by_name true named = due_kept r.kind d (servers_leave (by_side id refl e own named) named c)
          by_name false named = refl

  -- A RECORD OF IT

  module _ (is : r.name ≡ Some n) where
    here : is_named n r.name ≡ true
    here = ap (is_named n) is ∙ own_name n

    one_more : times (λ k. true) n (all_records next) ≡ times (λ k. true) n (all_records hs) + 1
    one_more = (let x : times (λ k. true) n (r ∷ []) ≡ 1 = times_here (λ k. true) n r ∙ ap one here in omega (arith, all_times (λ k. true), x))

    tells_on : (l m : Life) → LivesOn l (is_client id) r.kind m → m.due ≡ due_after r.kind l.due → TellsAll n hs l → TellsAll n next m
    tells_on l m law due t =
        record {
          life = relife n (joined_if (is_client id) (client_records hs) (r ∷ [])) (all_records hs ++ r ∷ []) (client_records next) (all_records next) m clients_same all_same
              (law n (client_records hs) (all_records hs) r refl is t.life);
          due = λ c. due ∙ (sym (ap (λ b. if b then due_after r.kind l.due else l.due) here) ∙ due_on l.due c (t.due (changed_before c)));
        }
      where
        all_same : (p : RecordKind → Bool) → times p n (all_records next) ≡ times p n (all_records hs ++ r ∷ [])
        all_same p = all_times p ∙ sym (times-append p n (all_records hs) (r ∷ []))

        clients_same : (p : RecordKind → Bool) → times p n (client_records next) ≡ times p n (joined_if (is_client id) (client_records hs) (r ∷ []))
        clients_same p = client_times p ∙ by_side (is_client id)
          where
            by_side : (b : Bool) → times p n (client_records hs) + (if b then times p n (r ∷ []) else 0) ≡ times p n (joined_if b (client_records hs) (r ∷ []))
            by_side true = sym (times-append p n (client_records hs) (r ∷ []))
            by_side false = omega arith

    goes_on : (l : Life) (o : Option Life) → TellsAll n hs l → LivesOnAs l (is_client id) r o → Knows n next o
    goes_on l o t (kept m law tells due undone) = tells_whole m (tells_on l m law due t) (omega (arith, one_more))
    goes_on l o t (dropped m law tells due done) = is_over m (tells_on l m law due t) done

    late_now : (l : Life) → TellsAll n hs l → is_done l ≡ true → CameLate n next
    late_now l t done =
        record {
          before = hs;
          begin = begin_behind id (r ∷ []) hs hs (begin_own hs);
          life = l;
          told = t.life;
          due = λ c. each_due n l.due hs a.single (t.due c);
          done = done;
          more = omega (arith, one_more);
        }

  late_on : CameLate n hs → CameLate n next
  late_on x = record { before = x.before; begin = begin_behind id (r ∷ []) x.before hs x.begin; life = x.life; told = x.told; due = x.due; done = x.done; more = omega (arith, x.more, all_times (λ k. true)) }

  knows_named : r.name ≡ Some n → (o m : Option Life) → Knows n hs o → LivesOnAs (life_or o) (is_client id) r m → Knows n next m
  knows_named is o m (unmet t) on = goes_on is no_life m t on
  knows_named is o m (tells_whole l t some) on = goes_on is l m t on
  knows_named is o m (is_over l t done) on = came_late m (late_now is l t done)
  knows_named is o m (came_late x t) on = came_late m (late_on t)

  -- A RECORD OF ANOTHER

  module _ (off : is_named n r.name ≡ false) where
    none_here : (p : RecordKind → Bool) → times p n (r ∷ []) ≡ 0
    none_here p = times_here p n r ∙ (ap (λ b. one (p r.kind && b)) off ∙ by_kind (p r.kind))
      where
        by_kind : (x : Bool) → one (x && false) ≡ 0
        by_kind true = refl
        by_kind false = refl

    tells_still : (l : Life) → TellsAll n hs l → TellsAll n next l
    tells_still l t =
        record {
          life = relife n (client_records hs) (all_records hs) (client_records next) (all_records next) l clients_same (λ p. omega (arith, all_times p, none_here p)) t.life;
          due = λ c. sym (ap (λ b. if b then due_after r.kind l.due else l.due) off) ∙ due_on l.due c (t.due (changed_before c));
        }
      where
        clients_same : (p : RecordKind → Bool) → times p n (client_records next) ≡ times p n (client_records hs)
        clients_same p = client_times p ∙ by_side (is_client id)
          where
            by_side : (b : Bool) → times p n (client_records hs) + (if b then times p n (r ∷ []) else 0) ≡ times p n (client_records hs)
            by_side true = omega (arith, none_here p)
            by_side false = omega arith

    knows_still : (o : Option Life) → Knows n hs o → Knows n next o
    knows_still o (unmet t) = unmet (tells_still no_life t)
    knows_still o (tells_whole l t some) = tells_whole l (tells_still l t) (omega (arith, some, all_times (λ k. true)))
    knows_still o (is_over l t done) = is_over l (tells_still l t) done
    knows_still o (came_late x t) = came_late x (late_on t)

  knows_on : Knows n next (more n)
  knows_on = by_name (is_named n r.name) refl
    where
      name_is : (o : Option Name) → is_named n o ≡ true → o ≡ Some n
      name_is None e = absurd (cc e)
      name_is (Some m) e = ap Some (same_names m n e)

      by_name : (b : Bool) → is_named n r.name ≡ b → Knows n next (more n)
      by_name true e = (let is = name_is r.name e in knows_named is (lives n) (more n) (a.each n) (goes.own n is))
      by_name false e = subst (Knows n next) (sym (goes.others n e)) (knows_still e (lives n) (a.each n))

pub known_one : (id : SessionId) (r : Record) (lives more : Name → Option Life) → AllGoOn lives (is_client id) r more → (hs : List Kept) (h : Kept) → kept_of id hs ≡ Some h →
    is_of_other_client id r ≡ false → (is_epoch r.kind ≡ true → NothingWaits id (reverse h.records)) → (used : ℕ → Bool) → AreKnown hs lives used → AreKnown (behind id (r ∷ []) hs) more used
known_one id r lives more goes hs h at own rested used a =
    record {
      single = single_behind id (r ∷ []) hs a.single;
      seen = seen;
      each = λ n. knows_on id r lives more goes hs h at own rested used a n;
    }
  where
    seen : (k : ℕ) (g : Kept) → kept_of (Client k) (behind id (r ∷ []) hs) ≡ Some g → used k ≡ true
    seen k g found = by_it (same_session id (Client k)) refl
      where
        by_it : (b : Bool) → same_session id (Client k) ≡ b → used k ≡ true
        by_it true e = a.seen k h (ap (λ q. kept_of q hs) (sym (same_is id (Client k) e)) ∙ at)
        by_it false e = a.seen k g (sym (kept_other id (r ∷ []) (Client k) e hs) ∙ found)

-- the same lives
pub known_still : (hs : List Kept) (lives more : Name → Option Life) (used : ℕ → Bool) → ((n : Name) → more n ≡ lives n) → AreKnown hs lives used → AreKnown hs more used
known_still hs lives more used same a = record { single = a.single; seen = a.seen; each = λ n. subst (Knows n hs) (sym (same n)) (a.each n) }

pub known_none : (lives : Name → Option Life) (used : ℕ → Bool) → ((n : Name) → lives n ≡ None) → AreKnown [] lives used
known_none lives used bare =
    record {
      single = tt;
      seen = λ k h at. absurd (let no : ◌≡◌ {A = Option Kept} None (Some h) = at in cc no);
      each = λ n. subst (Knows n []) (sym (bare n)) (unmet (record { life = bare_life n; due = λ c. refl }));
    }

-- ONE SESSION FURTHER

pub clients_of_more : (id : SessionId) (mode : InitMode) (hs : List Kept) → client_records (unwritten id mode ∷ hs) ≡ client_records hs
clients_of_more (Client k) mode hs = refl
clients_of_more (Server k) mode hs = refl

-- of what is done with nothing is due
nothing_left : (l : Life) → is_done l ≡ true → (false ≡ l.due.note) × (false ≡ l.due.answer)
nothing_left l done = by_due l.due.note l.due.answer refl refl
  where
    by_due : (a b : Bool) → l.due.note ≡ a → l.due.answer ≡ b → (false ≡ l.due.note) × (false ≡ l.due.answer)
    by_due false false e f = (sym e, sym f)
    by_due true b e f = absurd (let no : is_done l ≡ false = rw e refl in true≢false (sym done ∙ no))
    by_due false true e f = absurd (let no : is_done l ≡ false = rw (e, f) refl in true≢false (sym done ∙ no))

module _ (id : SessionId) (mode : InitMode) (hs : List Kept) (lives : Name → Option Life) (used now : ℕ → Bool) (rises : (k : ℕ) → used k ≡ true → now k ≡ true)
    (numbered : (k : ℕ) → id ≡ Client k → (used k ≡ false) × (now k ≡ true)) (a : AreKnown hs lives used) where
  abbrev wider : List Kept
  wider = unwritten id mode ∷ hs

  unseen : (k : ℕ) → id ≡ Client k → kept_of (Client k) hs ≡ None
  unseen k is = by_kept (kept_of (Client k) hs) refl
    where
      by_kept : (o : Option Kept) → kept_of (Client k) hs ≡ o → o ≡ None
      by_kept None e = refl
      by_kept (Some h) e = absurd (true≢false (sym (a.seen k h e) ∙ (numbered k is).0))

  single_opened : (q : SessionId) → id ≡ q → is_client q ≡ true → kept_of q hs ≡ None
  single_opened (Client k) is c = unseen k is
  single_opened (Server k) is c = absurd (cc c)

  seen_opened : (k : ℕ) (h : Kept) → kept_of (Client k) wider ≡ Some h → now k ≡ true
  seen_opened k h found = by_it (same_session id (Client k)) refl found
    where
      by_it : (b : Bool) → same_session id (Client k) ≡ b → (if b then Some (unwritten id mode) else kept_of (Client k) hs) ≡ Some h → now k ≡ true
      by_it true e found = (numbered k (same_is id (Client k) e)).1
      by_it false e found = rises k (a.seen k h found)

  module _ (n : Name) where
    due_same : due_told n (kept_of (Client n.client) hs) ≡ due_told n (kept_of (Client n.client) wider)
    due_same = by_it (same_session id (Client n.client)) refl
      where
        by_it : (b : Bool) → same_session id (Client n.client) ≡ b → due_told n (kept_of (Client n.client) hs) ≡ due_told n (if b then Some (unwritten id mode) else kept_of (Client n.client) hs)
        by_it true e = ap (due_told n) (unseen n.client (same_is id (Client n.client) e))
        by_it false e = refl

    tells_opened : (l : Life) → TellsAll n hs l → TellsAll n wider l
    tells_opened l t =
        record {
          life = subst (λ cs. IsLife n cs (all_records hs) l) (sym (clients_of_more id mode hs)) t.life;
          due = λ c. t.due (ap (times changes_due n) (sym (clients_of_more id mode hs)) ∙ c) ∙ due_same;
        }

    late_opened : CameLate n hs → CameLate n wider
    late_opened x =
        record {
          before = unwritten id mode ∷ x.before;
          begin = (([], refl), x.begin);
          life = x.life;
          told = subst (λ cs. IsLife n cs (all_records x.before) x.life) (sym (clients_of_more id mode x.before)) x.told;
          due = λ c. (λ is. nothing_left x.life x.done, x.due (ap (times changes_due n) (sym (clients_of_more id mode x.before)) ∙ c));
          done = x.done;
          more = x.more;
        }

    knows_opened : (o : Option Life) → Knows n hs o → Knows n wider o
    knows_opened o (unmet t) = unmet (tells_opened no_life t)
    knows_opened o (tells_whole l t some) = tells_whole l (tells_opened l t) some
    knows_opened o (is_over l t done) = is_over l (tells_opened l t) done
    knows_opened o (came_late x t) = came_late x (late_opened t)

  pub known_opened : AreKnown wider lives now
  known_opened = record { single = (single_opened id refl, a.single); seen = seen_opened; each = λ n. knows_opened n (lives n) (a.each n) }
