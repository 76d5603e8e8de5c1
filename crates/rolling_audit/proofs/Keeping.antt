-- What is kept of each dispatch, behind a record of one.
use Rattle.std.proofs.Common.{ℕ, ◌≡◌, ◌&&◌, ◌||◌, Bool, true, false, refl, sym, ◌∙◌, ap, subst, Option, Some, None}
use Rattle.std.specs.Prelude.{◌==◌, if◌then◌else◌, not, nat_lt, unwrap_or}
use Rattle.std.proofs.lemmas.Bool.{and_parts, eq-eqb, eqb-true, not-false, not-true}
use Rattle.indexmap.specs.IndexMap.{get}
use Rattle.mux_history.specs.declared.name.Name.{Name}
use Rattle.mux_history.specs.declared.record.Record.{Record}
use Rattle.mux_history.specs.declared.kind.RecordKind.{RecordKind}
use Rattle.mux_history.specs.declared.kind.RecordKind.TheVariants as kinds
use Rattle.mux_history.specs.Readings.{gives_name, is_named, same_name}
use Rattle.rolling_audit.specs.declared.fault.Flaw.{Flaw}
use Rattle.rolling_audit.specs.declared.fault.Flaw.TheVariants as flaws
use Rattle.rolling_audit.specs.declared.life.Life.{Life}
use Rattle.rolling_audit.specs.declared.lives.Lives.{Lives}
use Rattle.rolling_audit.specs.Dues.{due_after}
use Rattle.rolling_audit.specs.Lives.{IsFine, IsOver, LivesOn, flaw_of, is_done, is_ended_life, is_fine, is_flawed, is_none, is_settled, kept_life, lacks_end}
use Rattle.rolling_audit.specs.Steps.{AllGoOn, Keeps, LivesOnAs, dropped, kept}
use Rattle.rolling_audit.specs.Taken.{life_of, life_or, pair_eq}

pub pair_own : (a b : ℕ) → pair_eq (a, b) (a, b) ≡ true
pair_own a b = ap (λ x. x && (b == b)) (eq-eqb a a refl) ∙ eq-eqb b b refl

-- a life at the key of a name of this boot
module _ (old new : Lives) (n : Name) (l : Life) (same : new.boot ≡ old.boot) (own_boot : n.boot ≡ old.boot)
    (puts : (k : ℕ × ℕ) → get pair_eq new.lives k ≡ (if pair_eq (n.client, n.seq) k then kept_life l else get pair_eq old.lives k)) where
  own : life_of new n ≡ kept_life l
  own =
      ap (λ b. if b then get pair_eq new.lives (n.client, n.seq) else None) (eq-eqb n.boot new.boot (own_boot ∙ sym same))
      ∙ (puts (n.client, n.seq) ∙ ap (λ b. if b then kept_life l else get pair_eq old.lives (n.client, n.seq)) (pair_own n.client n.seq))

  others : (m : Name) → same_name n m ≡ false → life_of new m ≡ life_of old m
  others m differ = ap (λ x. if m.boot == x then get pair_eq new.lives (m.client, m.seq) else None) same ∙ by_boot (m.boot == old.boot) refl
    where
      off : (a b c : Bool) → a ≡ true → (a && b && c) ≡ false → (b && c) ≡ false
      off true b c e h = h
      off false b c e h = absurd (cc)

      by_boot : (b : Bool) → (m.boot == old.boot) ≡ b → (if b then get pair_eq new.lives (m.client, m.seq) else None) ≡ (if b then get pair_eq old.lives (m.client, m.seq) else None)
      by_boot false e = refl
      by_boot true e =
          puts (m.client, m.seq)
          ∙ ap (λ b. if b then kept_life l else get pair_eq old.lives (m.client, m.seq))
          (off (n.boot == m.boot) (n.client == m.client) (n.seq == m.seq) (eq-eqb n.boot m.boot (own_boot ∙ sym (eqb-true m.boot old.boot e))) differ)

  pub keeps : Keeps (life_of old) n l (life_of new)
  keeps = record { own = own; others = others }

-- no flaw: the records bear each other out, and a client took it
none_before : (b : Bool) (flaw : Flaw) (later : Option Flaw) → is_none (if b then Some flaw else later) ≡ true → (b ≡ false) × (is_none later ≡ true)
none_before true flaw later e = absurd (cc)
none_before false flaw later e = (refl, e)

pub no_flaw : (l : Life) → is_none (flaw_of l) ≡ true → (l.trace.taken ≡ true) × IsFine l
no_flaw l e =
    let first = none_before (not l.trace.taken) flaws.Untaken _ e in
    let second = none_before (is_flawed (nat_lt 0 l.trace.offered) l kinds.Offered) flaws.Offered _ first.1 in
    let third = none_before (is_flawed (nat_lt 0 l.trace.retried) l kinds.Retried) flaws.Retried _ second.1 in
    let fourth = none_before (is_flawed l.passed l kinds.Passed) flaws.Passed _ third.1 in
    let fifth = none_before (is_flawed l.failed l kinds.Failed) flaws.Failed None fourth.1 in
    (not-false l.trace.taken first.0, record { offered = second.0; retried = third.0; passed = fourth.0; failed = fifth.0 })

pub done_is_over : (l : Life) → is_done l ≡ true → (l.trace.taken ≡ true) × IsOver l
done_is_over l e =
    let parts = and_parts (is_settled l && is_ended_life l) (is_fine l) e in
    let ended = and_parts l.trace.taken (not (lacks_end l)) (and_parts (is_settled l) (is_ended_life l) parts.0).1 in
    (ended.0, record { fine = (no_flaw l parts.1).1; ended = not-true (lacks_end l) ended.1 })

same_some : (m n : Name) → Some m ≡ Some n → m ≡ n
same_some m n e = ap (λ o. unwrap_or o m) e

-- what is kept of the name, and of each other one
pub go_on : (lives more : Name → Option Life) (of_client : Bool) (kind : RecordKind) (n : Name) (m : Life) → LivesOn (life_or (lives n)) of_client kind m →
    m.trace.taken ≡ ((of_client && gives_name kind) || (life_or (lives n)).trace.taken) → m.due ≡ due_after kind (life_or (lives n)).due → Keeps lives n m more →
    (r : Record) → r.kind ≡ kind → r.name ≡ Some n → AllGoOn lives of_client r more
go_on lives more of_client kind n m law taken due k r is_kind is =
    let law_r : LivesOn (life_or (lives n)) of_client r.kind m = subst (λ x. LivesOn (life_or (lives n)) of_client x m) (sym is_kind) law in
    let taken_r : m.trace.taken ≡ ((of_client && gives_name r.kind) || (life_or (lives n)).trace.taken) =
    taken ∙ ap (λ x. (of_client && gives_name x) || (life_or (lives n)).trace.taken) (sym is_kind) in
    let due_r : m.due ≡ due_after r.kind (life_or (lives n)).due = due ∙ ap (λ x. due_after x (life_or (lives n)).due) (sym is_kind) in
    record {
      own = λ q named.
          let it : n ≡ q = same_some n q (sym is ∙ named) in
          subst (λ x. LivesOnAs (life_or (lives x)) of_client r (more x)) it
          (subst (LivesOnAs (life_or (lives n)) of_client r) (sym k.own) (by_done law_r taken_r due_r (is_done m) refl));
      others = λ q off. k.others q (flipped q off);
    }
  where
    by_done : LivesOn (life_or (lives n)) of_client r.kind m → m.trace.taken ≡ ((of_client && gives_name r.kind) || (life_or (lives n)).trace.taken) →
        m.due ≡ due_after r.kind (life_or (lives n)).due → (b : Bool) → is_done m ≡ b → LivesOnAs (life_or (lives n)) of_client r (if b then None else Some m)
    by_done law taken due true e = dropped m law taken due e
    by_done law taken due false e = kept m law taken due e

    flipped : (q : Name) → is_named q r.name ≡ false → same_name n q ≡ false
    flipped q off = sym (ap (is_named q) is) ∙ off
