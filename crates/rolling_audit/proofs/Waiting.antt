-- What is due of a client's dispatches, behind a record.
use Rattle.std.proofs.Common.{ℕ, ◌≡◌, ◌&&◌, ◌||◌, Bool, true, false, refl, sym, ◌∙◌, ap, Option, Some, None}
use Rattle.std.specs.Prelude.{◌==◌, if◌then◌else◌, nat_eq, unwrap_or}
use Rattle.std.proofs.lemmas.Cmp.{nat_eq_equiv}
use Rattle.std.proofs.lemmas.Bool.{and_parts, eq-eqb, eqb-true, and_left}
use Rattle.indexmap.specs.IndexMap.{get}
use Rattle.mux_history.specs.declared.name.Name.{Name}
use Rattle.mux_history.specs.declared.record.Record.{Record}
use Rattle.mux_history.specs.Readings.{is_epoch, is_named}
use Rattle.rolling_audit.specs.declared.dues.Due.{Due}
use Rattle.rolling_audit.specs.declared.dues.Dues.{Dues}
use Rattle.rolling_audit.specs.Dues.{AreKept, DuesGoOn, IsOfClient, UsesDue, due_after, due_at, due_behind, due_of, kept_behind, kept_due, none_due}

at_kept : (d : Due) → due_at (kept_due d) ≡ d
at_kept d = by_tests d.note d.answer
  where
    by_tests : (a b : Bool) → due_at (if a || b then Some (record { note = a; answer = b }) else None) ≡ record { note = a; answer = b }
    by_tests true b = refl
    by_tests false true = refl
    by_tests false false = refl

kept_has : (d e : Due) → kept_due d ≡ Some e → (e.note || e.answer) ≡ true
kept_has d e is = by_test (d.note || d.answer) refl is
  where
    by_test : (b : Bool) → (d.note || d.answer) ≡ b → (if b then Some d else None) ≡ Some e → (e.note || e.answer) ≡ true
    by_test true h found = sym (ap (λ o. (unwrap_or o d).note || (unwrap_or o d).answer) found) ∙ h
    by_test false h found = absurd (cc)

module _ (old : Dues) (r : Record) (new : Dues) (uses : UsesDue old r new) where
  -- of a number of this client
  own : (boot client : ℕ) → IsOfClient boot client r → (n : Name) → n.boot ≡ boot → n.client ≡ client → due_at (get nat_eq new.due n.seq) ≡ due_behind r n (due_at (get nat_eq old.due n.seq))
  own boot client of n b c = ap due_at (uses n.seq) ∙ by_epoch (is_epoch r.kind)
    where
      was : Due
      was = due_at (get nat_eq old.due n.seq)

      on : (m : Name) (here : Bool) → nat_eq m.seq n.seq ≡ here → (m.boot == n.boot) ≡ true → (m.client == n.client) ≡ true →
          due_at (if nat_eq m.seq n.seq then kept_due (due_after r.kind (due_at (get nat_eq old.due m.seq))) else get nat_eq old.due n.seq)
          ≡ (if (m.boot == n.boot) && (m.client == n.client) && (m.seq == n.seq) then due_after r.kind was else was)
      on m true e x y =
          ap (λ h. due_at (if h then kept_due (due_after r.kind (due_at (get nat_eq old.due m.seq))) else get nat_eq old.due n.seq)) e
          ∙ (at_kept (due_after r.kind (due_at (get nat_eq old.due m.seq)))
          ∙ (ap (λ s. due_after r.kind (due_at (get nat_eq old.due s))) (eqb-true m.seq n.seq e)
          ∙ sym (λ i. if x i && y i && e i then due_after r.kind was else was)))
      on m false e x y =
          ap (λ h. due_at (if h then kept_due (due_after r.kind (due_at (get nat_eq old.due m.seq))) else get nat_eq old.due n.seq)) e
          ∙ sym (λ i. if x i && y i && e i then due_after r.kind was else was)

      by_name : (o : Option Name) → r.name ≡ o → due_at (kept_behind old r o n.seq) ≡ (if is_named n o then due_after r.kind was else was)
      by_name None e = refl
      by_name (Some m) e =
          let it = of m e in
          on m (nat_eq m.seq n.seq) refl (eq-eqb m.boot n.boot (it.0 ∙ sym b)) (eq-eqb m.client n.client (it.1 ∙ sym c))

      by_epoch : (e : Bool) → due_at (if e then None else kept_behind old r r.name n.seq) ≡ (if e then none_due else (if is_named n r.name then due_after r.kind was else was))
      by_epoch true = refl
      by_epoch false = by_name r.name refl

  -- of another client's, or of another boot, nothing is
  other : (boot client : ℕ) → IsOfClient boot client r → (n : Name) → (n.boot == boot && n.client == client) ≡ false → none_due ≡ due_behind r n none_due
  other boot client of n off = by_epoch (is_epoch r.kind)
    where
      by_name : (o : Option Name) → r.name ≡ o → none_due ≡ (if is_named n o then due_after r.kind none_due else none_due)
      by_name None e = refl
      by_name (Some m) e =
          let it = of m e in
          sym (ap (λ h. if h then due_after r.kind none_due else none_due)
          (and_left (m.boot == n.boot && m.client == n.client) (m.seq == n.seq) ((λ i. (it.0 i == n.boot) && (it.1 i == n.client)) ∙ turned)))
        where
          turned : (boot == n.boot && client == n.client) ≡ false
          turned = (λ i. nat_eq_equiv.symm boot n.boot i && nat_eq_equiv.symm client n.client i) ∙ off

      by_epoch : (e : Bool) → none_due ≡ (if e then none_due else (if is_named n r.name then due_after r.kind none_due else none_due))
      by_epoch true = refl
      by_epoch false = by_name r.name refl

  behind : (boot client : ℕ) → IsOfClient boot client r → (n : Name) → due_of boot client new n ≡ due_behind r n (due_of boot client old n)
  behind boot client of n = by_test (n.boot == boot && n.client == client) refl
    where
      by_test : (h : Bool) → (n.boot == boot && n.client == client) ≡ h →
          (if h then due_at (get nat_eq new.due n.seq) else none_due) ≡ due_behind r n (if h then due_at (get nat_eq old.due n.seq) else none_due)
      by_test true h =
          let both = and_parts (n.boot == boot) (n.client == client) h in
          own boot client of n (eqb-true n.boot boot both.0) (eqb-true n.client client both.1)
      by_test false h = other boot client of n h

  kept : AreKept old → AreKept new
  kept was k d at = by_epoch (is_epoch r.kind) (sym (uses k) ∙ at)
    where
      on : (here : Bool) (now : Due) → (if here then kept_due now else get nat_eq old.due k) ≡ Some d → (d.note || d.answer) ≡ true
      on true now found = kept_has now d found
      on false now found = was k d found

      by_name : (o : Option Name) → kept_behind old r o k ≡ Some d → (d.note || d.answer) ≡ true
      by_name None found = was k d found
      by_name (Some n) found = on (nat_eq n.seq k) (due_after r.kind (due_at (get nat_eq old.due n.seq))) found

      by_epoch : (e : Bool) → (if e then None else kept_behind old r r.name k) ≡ Some d → (d.note || d.answer) ≡ true
      by_epoch true found = absurd (cc found)
      by_epoch false found = by_name r.name found

  pub dues_go_on : DuesGoOn old r new
  dues_go_on = record { behind = behind; kept = kept }
