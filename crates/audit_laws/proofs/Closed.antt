-- Closing finds no dispatch of a run at fault.
use Rattle.std.proofs.Common.{ℕ, List, [], ◌∷◌, ◌++◌, ◌+◌, ◌≡◌, ◌≤◌, ◌&&◌, inl, inr, Bool, true, false, refl, sym, ◌∙◌, ap, subst, arith, true≢false}
use Rattle.std.specs.Prelude.{if◌then◌else◌, filter, map, reverse}
use Rattle.std.proofs.lemmas.Bool.{and_parts}
use Rattle.mux_history.specs.Bounds.{Bounds}
use Rattle.mux_history.specs.declared.name.Name.{Name}
use Rattle.mux_history.specs.declared.record.Record.{Record}
use Rattle.mux_history.specs.declared.kind.RecordKind.{RecordKind}
use Rattle.mux_history.specs.declared.kind.RecordKind.TheVariants.{Took, Noted, Passed, Retried, Nacked, Unrouted, Failed, Late}
use Rattle.mux_history.specs.declared.session.InitMode.{InitMode}
use Rattle.mux_history.specs.declared.session.SessionId.{SessionId}
use Rattle.mux_history.specs.declared.session.SessionId.TheVariants.{Client, Server}
use Rattle.mux_history.specs.Readings.{is_epoch, is_named, present}
use Rattle.mux_agree.specs.Walk.{Kept, all_records, client_records, is_client}
use Rattle.mux_model.specs.Events.{Event, run, AllChooseFree}
use Rattle.mux_model.specs.Legal.{EachLine, Line}
use Rattle.mux_model.specs.Replay.{are_histories, epochs, is_joined, may_follow_up}
use Rattle.mux_model.specs.Runs.{lines}
use Rattle.mux_model.specs.Steps.{records}
use Rattle.mux_model.specs.Up.{UpSession}
use Rattle.mux_model.specs.World.{start}
use Rattle.mux_legal.specs.KeptRuns.{history_of}
use Rattle.mux_legal.specs.RunsBearOut.{of_boot}
use Rattle.mux_legal.proofs.Basics.{one_if}
use Rattle.mux_legal.proofs.Kept.{records_follow}
use Rattle.mux_legal.proofs.OfBoot.{each_of_boot}
use Rattle.mux_legal.proofs.RunsBorne.{runs_bear_out}
use Rattle.mux_legal.proofs.ToldEpochs.{each_epoch}
use Rattle.mux_legal.proofs.ToldHolders.{occurs}
use Rattle.mux_legal.proofs.ToldWalk.{occurs-append, times_occurs}
use Rattle.rolling_audit.specs.declared.fault.RollingFault.TheVariants as faults
use Rattle.rolling_audit.specs.declared.fault.Flaw.TheVariants.{Untaken}
use Rattle.rolling_audit.specs.Known.{AreBeginnings, CameLate, ClientsChangeDue, changes_due}
use Rattle.rolling_audit.specs.Taken.{HasFlaw}
use Rattle.rolling_audit.proofs.Borne.{close_rightly}
use Rattle.rolling_audit.proofs.Late.{finds_untaken}
use Rattle.audit_laws.specs.AuditedRuns.{NeverFlawed, histories_of}
use Rattle.audit_laws.proofs.Forgotten.{JoinedLine, done_for_good, occurs-reverse, of_clients}
use Rattle.audit_laws.proofs.Refused.{joined_lines}
use Rattle.audit_laws.proofs.Taken.{every_name_is_taken}

-- NO RECORD OF A SERVER CHANGES WHAT IS DUE

up_leaves : (s : UpSession) (past : List Record) (r : Record) (k : RecordKind) → may_follow_up s past r k ≡ true → changes_due k ≡ false
up_leaves s past r Took m = absurd (cc)
up_leaves s past r (Noted x) m = absurd (cc)
up_leaves s past r Passed m = absurd (cc)
up_leaves s past r Retried m = absurd (cc)
up_leaves s past r Nacked m = absurd (cc)
up_leaves s past r Unrouted m = absurd (cc)
up_leaves s past r Failed m = absurd (cc)
up_leaves s past r (Late x) m = absurd (cc)
up_leaves s past r _ m = refl

server_leaves : (limits : Bounds) (b k : ℕ) (mode : InitMode) (n : Name) (rs : List Record) → are_histories limits b mode (Server k) (epochs rs) ≡ true → occurs changes_due n rs ≡ 0
server_leaves limits b k mode n [] h = refl
server_leaves limits b k mode n (r ∷ old) h =
    let a = each_epoch limits b mode (Server k) r old h in
    let x = up_leaves (record { limits = limits; number = k; mode = mode }) (if is_epoch r.kind then [] else present old) r r.kind (and_parts _ _ (and_parts _ _ a.0).0).0 in
    omega (arith, server_leaves limits b k mode n old a.1, ap (λ y. one_if (y && is_named n r.name)) x)

clients_change : (limits : Bounds) (n : Name) (ls : List Line) → EachLine (JoinedLine limits) ls →
    occurs changes_due n (all_records (map history_of ls)) ≤ occurs changes_due n (client_records (map history_of ls))
clients_change limits n [] each = omega arith
clients_change limits n (l ∷ ls) each = by_session l.session each.0 (clients_change limits n ls each.1)
  where
    all : occurs changes_due n (reverse (records l.steps) ++ all_records (map history_of ls)) ≡ occurs changes_due n (records l.steps) + occurs changes_due n (all_records (map history_of ls))
    all = omega (arith, occurs-append changes_due n (reverse (records l.steps)) (all_records (map history_of ls)), occurs-reverse changes_due n (records l.steps))

    by_session : (id : SessionId) → is_joined limits l.boot l.mode id (records l.steps) ≡ true →
        occurs changes_due n (all_records (map history_of ls)) ≤ occurs changes_due n (client_records (map history_of ls)) →
        occurs changes_due n (reverse (records l.steps) ++ all_records (map history_of ls))
        ≤ occurs changes_due n (all_records (if is_client id then history_of l ∷ filter (λ h. is_client h.session) (map history_of ls) else filter (λ h. is_client h.session) (map history_of ls)))
    by_session (Client k) j rest =
        omega (arith, all, rest, occurs-append changes_due n (reverse (records l.steps)) (client_records (map history_of ls)), occurs-reverse changes_due n (records l.steps))
    by_session (Server k) j rest = omega (arith, all, rest, server_leaves limits l.boot k l.mode n (records l.steps) (and_parts _ _ j).0)

-- nor one of beginnings of such lists
begin_change : (p : RecordKind → Bool) (n : Name) (ts hs : List Kept) → AreBeginnings ts hs →
    occurs p n (all_records ts) + occurs p n (client_records hs) ≤ occurs p n (all_records hs) + occurs p n (client_records ts)
begin_change p n [] [] b = omega arith
begin_change p n [] (h ∷ hs) b = absurd b
begin_change p n (t ∷ ts) [] b = absurd b
begin_change p n (t ∷ ts) (h ∷ hs) b =
    by_side (is_client t.session) (is_client h.session) (ap (λ (x : Kept). is_client x.session) b.0.1) (begin_change p n ts hs b.1)
  where
    longer_has : occurs p n t.records + occurs p n b.0.0 ≡ occurs p n h.records
    longer_has = sym (occurs-append p n t.records b.0.0) ∙ ap (λ (x : Kept). occurs p n x.records) b.0.1

    by_side : (x y : Bool) → x ≡ y → occurs p n (all_records ts) + occurs p n (client_records hs) ≤ occurs p n (all_records hs) + occurs p n (client_records ts) →
        occurs p n (t.records ++ all_records ts) + occurs p n (all_records (if y then h ∷ filter (λ g. is_client g.session) hs else filter (λ g. is_client g.session) hs))
        ≤ occurs p n (h.records ++ all_records hs) + occurs p n (all_records (if x then t ∷ filter (λ g. is_client g.session) ts else filter (λ g. is_client g.session) ts))
    by_side true true same rest =
        omega (
          arith,
          rest,
          occurs-append p n t.records (all_records ts),
          occurs-append p n h.records (client_records hs),
          occurs-append p n h.records (all_records hs),
          occurs-append p n t.records (client_records ts),
        )
    by_side false false same rest = omega (arith, rest, longer_has, occurs-append p n t.records (all_records ts), occurs-append p n h.records (all_records hs))
    by_side true false same rest = absurd (true≢false same)
    by_side false true same rest = absurd (true≢false (sym same))

module _ (limits : Bounds) (boot : ℕ) (events : List (ℕ × Event)) (free : AllChooseFree (start limits boot) events) (b : ℕ) (n : Name) where
  abbrev hs : List Kept
  hs = histories_of limits boot events b

  changed : (ts : List Kept) → AreBeginnings ts hs → ClientsChangeDue n ts
  changed ts begin =
      let w = run (start limits boot) events in
      let joined = joined_lines limits w.connections (records_follow limits boot events free) in
      let all = clients_change limits n (of_boot b (lines w.connections)) (each_of_boot (JoinedLine limits) (JoinedLine limits) b (λ l e f. f) (lines w.connections) joined) in
      let part = begin_change changes_due n ts hs begin in
      let few = of_clients changes_due n ts in
      let x = times_occurs changes_due n (client_records ts) in
      let y = times_occurs changes_due n (all_records ts) in
      omega (arith, all, part, few, x, y)

  -- none was named again once it was done with
  never_late : CameLate n hs → ⊥
  never_late x =
      let same = done_for_good limits boot events free b x.before x.begin n x.life x.told (x.due (changed x.before x.begin)) x.done in
      omega (arith, same, x.more)

pub never_flawed : NeverFlawed
never_flawed limits boot events free b taken a (faults.Dispatch n flaw) is order at =
    let untaken = close_rightly taken (histories_of limits boot events b) a (faults.Dispatch n flaw) is order (runs_bear_out limits boot events free b) at in
    let it : flaw ≡ Untaken = (let e = untaken.1 in cc) in
    elim (finds_untaken taken (histories_of limits boot events b) a n is order (subst (HasFlaw a.lives n) it at)) [
      | inl x ↦ true≢false (sym (every_name_is_taken limits boot events free b n x.0) ∙ x.1)
      | inr x ↦ never_late limits boot events free b n x
    ]
never_flawed limits boot events free b taken a (faults.Memory more) is order at = at
never_flawed limits boot events free b taken a (faults.NotOpen session) is order at = at
never_flawed limits boot events free b taken a (faults.Record session place cause) is order at = at
