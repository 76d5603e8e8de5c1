-- A dispatch that closing finds untaken, in whatever order the histories come.
use Rattle.std.proofs.Common.{ℕ, List, [], ◌∷◌, ◌≡◌, ◌≤◌, ◌<◌, ◌⊎◌, inl, inr, Bool, true, false, refl, sym, ◌∙◌, ap, subst, arith, length, map, swap, Option, Some, None}
use Rattle.std.specs.Prelude.{All, if◌then◌else◌, not, nat_lt}
use Rattle.std.specs.List.Sorted.{IsPermutation}
use Rattle.std.proofs.lemmas.List.{length-map}
use Rattle.std.proofs.lemmas.List.Elements.{All-cons, All-head, All-nil, All-tail}
use Rattle.std.proofs.lemmas.List.Sorted.{All-permutation, IsPermutation-keeps, IsPermutation-map, IsPermutation-refl, IsPermutation-swap, IsPermutation-trans}
use Rattle.indexmap.proofs.ReorderLemmas.{map-swap}
use Rattle.mux_history.specs.declared.name.Name.{Name}
use Rattle.mux_history.specs.declared.record.Record.{Record}
use Rattle.mux_history.specs.declared.kind.RecordKind.TheVariants as kinds
use Rattle.mux_history.specs.Readings.{gives_name}
use Rattle.mux_agree.specs.Agree.{has, times}
use Rattle.mux_agree.specs.Walk.{Kept, all_records, client_records}
use Rattle.rolling_audit.specs.declared.dues.Due.{Due}
use Rattle.rolling_audit.specs.declared.fault.Flaw.{Flaw}
use Rattle.rolling_audit.specs.declared.fault.Flaw.TheVariants as flaws
use Rattle.rolling_audit.specs.declared.life.Life.{Life}
use Rattle.rolling_audit.specs.Histories.{longer}
use Rattle.rolling_audit.specs.Known.{AreBeginnings, CameLate, EachIsDueBy, IsDueBy, Knows, changes_due, late, over, unmet, whole}
use Rattle.rolling_audit.specs.Lives.{flaw_of, is_flawed}
use Rattle.rolling_audit.specs.Steps.{FindsUntaken}
use Rattle.rolling_audit.specs.Taken.{life_of}
use Rattle.rolling_audit.proofs.Closing.{all_so, clients_so, life_so}
use Rattle.rolling_audit.proofs.Taking.{same_life}

-- A BEGINNING OF EACH, IN ANOTHER ORDER

abbrev part : Kept × List Record → Kept
part p = p.0

abbrev joined : Kept × List Record → Kept
joined p = longer p.0 p.1

parted : (ts hs : List Kept) → AreBeginnings ts hs → (ps : List (Kept × List Record)) × (map part ps ≡ ts) × (map joined ps ≡ hs)
parted [] [] b = ([], refl, refl)
parted [] (h ∷ hs) b = absurd b
parted (t ∷ ts) [] b = absurd b
parted (t ∷ ts) (h ∷ hs) b =
    let rest = parted ts hs b.1 in
    ((t, b.0.0) ∷ rest.0, ap (λ l. t ∷ l) rest.1, λ i. b.0.1 i ∷ rest.2 i)

begin_parts : (ps : List (Kept × List Record)) → AreBeginnings (map part ps) (map joined ps)
begin_parts [] = tt
begin_parts (p ∷ ps) = ((p.1, refl), begin_parts ps)

module _ (ps : List (Kept × List Record)) (hs : List Kept) (is : map joined ps ≡ hs) where
  abbrev Turned : List Kept → Type 0
  Turned ks = (qs : List (Kept × List Record)) × IsPermutation ps qs × (map joined qs ≡ ks)

  swapped : (l : List Kept) (i j : ℕ) → i < length l → j < length l → Turned l → Turned (swap l i j)
  swapped l i j p q t =
      let long : length l ≡ length t.0 = sym (ap length t.2) ∙ length-map t.0 joined in (
        swap t.0 i j,
        IsPermutation-trans ps t.0 (swap t.0 i j) t.1 (IsPermutation-swap t.0 (swap t.0 i j) i j (omega (arith, p, long)) (omega (arith, q, long)) refl),
        map-swap joined t.0 i j ∙ ap (λ m. swap m i j) t.2,
      )

  turned : (ks : List Kept) → IsPermutation hs ks → Turned ks
  turned ks order = IsPermutation-keeps hs Turned (ps, IsPermutation-refl ps, is) swapped ks order

all_due : (n : Name) (d : Due) (hs : List Kept) → EachIsDueBy n d hs → All (IsDueBy n d) hs
all_due n d [] each = All-nil (IsDueBy n d)
all_due n d (h ∷ hs) each = All-cons (IsDueBy n d) h hs each.0 (all_due n d hs each.1)

each_due : (n : Name) (d : Due) (hs : List Kept) → All (IsDueBy n d) hs → EachIsDueBy n d hs
each_due n d [] all = tt
each_due n d (h ∷ hs) all = (All-head (IsDueBy n d) h hs all, each_due n d hs (All-tail (IsDueBy n d) h hs all))

module _ (hs ks : List Kept) (order : IsPermutation hs ks) (n : Name) where
  late_so : CameLate n hs → CameLate n ks
  late_so x =
      let parts = parted x.before hs x.begin in
      let qs = turned parts.0 hs parts.2 ks order in
      let before : List Kept = map part qs.0 in
      let same : IsPermutation x.before before = subst (λ l. IsPermutation l before) parts.1 (IsPermutation-map part parts.0 qs.0 qs.1) in
      record {
        before = before;
        begin = subst (AreBeginnings before) qs.2 (begin_parts qs.0);
        life = x.life;
        told = life_so x.before before same n x.life x.told;
        due = λ c.
            each_due n x.life.due before
            (All-permutation (IsDueBy n x.life.due) x.before before same
            (all_due n x.life.due x.before (x.due (sym (clients_so x.before before same n changes_due) ∙ (c ∙ all_so x.before before same n changes_due)))));
        done = x.done;
        more = (let a = all_so x.before before same n (λ k. true) in let b = all_so hs ks order n (λ k. true) in omega (arith, x.more, a, b));
      }

-- THE FLAW

no_other : (a b c d : Bool)
    → ◌≡◌ {A = Option Flaw} (if a then Some flaws.Offered else if b then Some flaws.Retried else if c then Some flaws.Passed else if d then Some flaws.Failed else None) (Some flaws.Untaken) → ⊥
no_other true b c d e = cc e
no_other false true c d e = cc e
no_other false false true d e = cc e
no_other false false false true e = cc e
no_other false false false false e = cc e

untaken_is : (l : Life) → flaw_of l ≡ Some flaws.Untaken → l.trace.taken ≡ false
untaken_is l is = by_taken l.trace.taken refl is
  where
    by_taken : (t : Bool) → l.trace.taken ≡ t
        → (if not t then Some flaws.Untaken
        else if is_flawed (nat_lt 0 l.trace.offered) l kinds.Offered then Some flaws.Offered
        else if is_flawed (nat_lt 0 l.trace.retried) l kinds.Retried then Some flaws.Retried
        else if is_flawed l.passed l kinds.Passed then Some flaws.Passed
        else if is_flawed l.failed l kinds.Failed then Some flaws.Failed
        else None) ≡ Some flaws.Untaken → l.trace.taken ≡ false
    by_taken false t e = t
    by_taken true t e =
        absurd (no_other (is_flawed (nat_lt 0 l.trace.offered) l kinds.Offered) (is_flawed (nat_lt 0 l.trace.retried) l kinds.Retried) (is_flawed l.passed l kinds.Passed) (is_flawed l.failed l kinds.Failed) e)

pub finds_untaken : FindsUntaken
finds_untaken hs ks a n taken order (l, at, is) = by_kept (life_of a.lives n) at (taken.knows.each n)
  where
    by_kept : (o : Option Life) → o ≡ Some l → Knows n hs o → ((1 ≤ times (λ k. true) n (all_records ks)) × (has gives_name n (client_records ks) ≡ false)) ⊎ CameLate n ks
    by_kept o it (unmet t) = absurd (let no : ◌≡◌ {A = Option Life} None (Some l) = it in cc no)
    by_kept o it (over m t done) = absurd (let no : ◌≡◌ {A = Option Life} None (Some l) = it in cc no)
    by_kept o it (whole m t some) =
        let same = all_so hs ks order n (λ k. true) in
        inl (
          omega (arith, some, same),
          (life_so hs ks order n m t.life).trace.taken ∙ (ap (λ (x : Life). x.trace.taken) (same_life m l it) ∙ untaken_is l is),
        )
    by_kept o it (late p x) = inr (late_so hs ks order n x)
