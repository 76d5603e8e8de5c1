-- The counts of a dispatch tell the causes of its records.
use Rattle.std.proofs.Common.{ℕ, List, [], ◌∷◌, ◌++◌, ◌+◌, ◌≡◌, ◌&&◌, ◌||◌, Bool, true, false, refl, sym, ◌∙◌, ap, arith, Option, Some, None}
use Rattle.std.specs.Prelude.{IfSome, IsTrue, not, if◌then◌else◌, nat_lt, count_by}
use Rattle.std.specs.List.{list_any}
use Rattle.std.proofs.lemmas.Bool.Decides.{nat_tests}
use Rattle.std.proofs.lemmas.List.Sums.{sum_by-cons}
use Rattle.std.proofs.lemmas.Bool.{eq-eqb, eqb-true, and_from, and_parts}
use Rattle.mux_history.specs.declared.name.Name.{Name}
use Rattle.mux_history.specs.declared.record.Record.{Record}
use Rattle.mux_history.specs.declared.kind.RecordKind.{RecordKind}
use Rattle.mux_history.specs.declared.kind.RecordKind.TheVariants.{Settled, SettledNack, Offered, Passed, Failed}
use Rattle.mux_history.specs.Readings.{is_offered, is_retried, gives_name, is_named, same_name}
use Rattle.mux_agree.specs.Facts.{is_discarding}
use Rattle.mux_agree.proofs.Searches.{has_append}
use Rattle.mux_agree.proofs.Counts.{times-append}
use Rattle.mux_agree.specs.Agree.{has, times, is_refused, is_nacked, is_settled, is_settled_nack, is_replied, is_lost_one, is_sent_twice, is_never_sent, is_unfounded, is_nacked_though_sent, is_lost_but_settled}
use Rattle.rolling_audit.specs.declared.trace.Trace.{Trace}
use Rattle.rolling_audit.specs.Counted.{one, CountsOne, BearsKind, GoesOn, IsBorne, IsCounted, faultless_by, joined_if, twice_by, unfounded_by, nacked_by, lost_by}

any_step : (b : Bool) (c : Bool) (n : ℕ) → c ≡ nat_lt 0 n → (b || c) ≡ nat_lt 0 ((if b then 1 else 0) + n)
any_step true c n e = sym (grind (arith, nat_tests))
any_step false c n e = e ∙ ap (nat_lt 0) (omega arith)

-- there is one if there is more than none
any_is_some : (p : Record → Bool) (rs : List Record) → list_any p rs ≡ nat_lt 0 (count_by p rs)
any_is_some p [] = refl
any_is_some p (r ∷ rs) =
    any_step (p r) (list_any p rs) (count_by p rs) (any_is_some p rs)
    ∙ ap (nat_lt 0) (sym (sum_by-cons (λ x. if p x then 1 else 0) r rs))

replied_step : (k : RecordKind) (b : Bool) (x y z : ℕ) → x ≡ y + z →
    (if is_replied k && b then 1 else 0) + x ≡ ((if is_settled k && b then 1 else 0) + y) + ((if is_settled_nack k && b then 1 else 0) + z)
replied_step (Settled t) true x y z e = omega (arith, e)
replied_step (Settled t) false x y z e = omega (arith, e)
replied_step SettledNack true x y z e = omega (arith, e)
replied_step SettledNack false x y z e = omega (arith, e)
replied_step _ b x y z e = omega (arith, e)

-- a reply is a nack or not
replied_is : (n : Name) (rs : List Record) → times is_replied n rs ≡ times is_settled n rs + times is_settled_nack n rs
replied_is n [] = refl
replied_is n (r ∷ rs) =
    let a = sum_by-cons (λ x. if is_replied x.kind && is_named n x.name then 1 else 0) r rs in
    let b = sum_by-cons (λ x. if is_settled x.kind && is_named n x.name then 1 else 0) r rs in
    let c = sum_by-cons (λ x. if is_settled_nack x.kind && is_named n x.name then 1 else 0) r rs in
    let step = replied_step r.kind (is_named n r.name) (times is_replied n rs) (times is_settled n rs) (times is_settled_nack n rs) (replied_is n rs) in
    a ∙ (step ∙ omega (arith, b, c))

pub has_is : (p : RecordKind → Bool) (n : Name) (rs : List Record) → has p n rs ≡ nat_lt 0 (times p n rs)
has_is p n rs = any_is_some _ rs

module _ (n : Name) (clients all : List Record) (d : Trace) (r : Record) (is : r.name ≡ Some n) (c : IsCounted n clients all d) where
  sent_twice_by : is_sent_twice all r ≡ twice_by d r.kind
  sent_twice_by = rw is (rw c.offered (rw c.retried (rw c.nacked_back refl)))

  unfounded_is : (k : RecordKind) → is_unfounded clients all k (Some n) ≡ unfounded_by d k
  unfounded_is Offered = rw c.taken refl
  unfounded_is Passed =
      rw (has_is is_offered n all) (rw (has_is is_replied n all) (rw (replied_is n all) (rw c.offered (rw c.settled (rw c.nacked_back refl)))))
  unfounded_is Failed = rw (has_is is_offered n all) (rw c.offered refl)
  unfounded_is _ = refl

  never_sent_by : is_never_sent clients all r ≡ unfounded_by d r.kind
  never_sent_by = rw is (unfounded_is r.kind)

  nacked_though_sent_by : is_nacked_though_sent all r ≡ nacked_by d r.kind
  nacked_though_sent_by = rw is (rw c.refused (rw c.nacked (rw c.offered (rw c.nacked_back refl))))

  lost_by_counts : is_lost_but_settled all r ≡ lost_by d r.kind
  lost_by_counts = rw is (rw (has_is is_offered n all) (rw (has_is is_settled n all) (rw c.offered (rw c.settled (rw c.missing refl)))))

  pub faultless_so : IsBorne clients all r → faultless_by d r.kind ≡ true
  faultless_so b = λ i. if (sym sent_twice_by ∙ b.sent_once) i then false
      else not ((sym never_sent_by ∙ b.founded) i || ((sym nacked_though_sent_by ∙ b.not_nacked) i || (sym lost_by_counts ∙ b.lost) i))

-- what makes a record faultless by the counts
none_of : (a b c d : Bool) → IsTrue (if a then false else not (b || (c || d))) → (a ≡ false) × (b ≡ false) × (c ≡ false) × (d ≡ false)
none_of false false false false h = (refl, refl, refl, refl)
none_of true b c d h = absurd (cc)
none_of false true c d h = absurd (cc)
none_of false false true d h = absurd (cc)
none_of false false false true h = absurd (cc)

pub bears_kind : (d : Trace) (kind : RecordKind) → IsTrue (faultless_by d kind) → BearsKind d kind
bears_kind d kind h n clients all r is_kind is c =
    let none = none_of (twice_by d kind) (unfounded_by d kind) (nacked_by d kind) (lost_by d kind) h in
    record {
      sent_once = sent_twice_by n clients all d r is c ∙ (ap (twice_by d) is_kind ∙ none.0);
      founded = never_sent_by n clients all d r is c ∙ (ap (unfounded_by d) is_kind ∙ none.1);
      not_nacked = nacked_though_sent_by n clients all d r is c ∙ (ap (nacked_by d) is_kind ∙ none.2);
      lost = lost_by_counts n clients all d r is c ∙ (ap (lost_by d) is_kind ∙ none.3);
    }

-- one record more of the name
pub times_one : (p : RecordKind → Bool) (n : Name) (r : Record) (all : List Record) (kind : RecordKind) (m : ℕ) → r.kind ≡ kind → is_named n r.name ≡ true →
    times p n all ≡ m → times p n (all ++ r ∷ []) ≡ one (p kind) + m
times_one p n r all kind m is_kind is e =
    times-append p n all (r ∷ [])
    ∙ (ap (λ x. times p n all + x) (sum_by-cons (λ x. if p x.kind && is_named n x.name then 1 else 0) r [])
    ∙ rw is_kind (rw is (both (p kind) (times p n all) m e)))
  where
    both : (b : Bool) (x y : ℕ) → x ≡ y → x + ((if b && true then 1 else 0) + 0) ≡ one b + y
    both true x y e = omega (arith, e)
    both false x y e = omega (arith, e)

pub has_one : (p : RecordKind → Bool) (n : Name) (r : Record) (all : List Record) (kind : RecordKind) (b : Bool) → r.kind ≡ kind → is_named n r.name ≡ true →
    has p n all ≡ b → has p n (all ++ r ∷ []) ≡ (p kind || b)
has_one p n r all kind b is_kind is e = has_append p n all (r ∷ []) ∙ rw is_kind (rw is (rw e (both (p kind) b)))
  where
    both : (a b : Bool) → (b || ((a && true) || false)) ≡ (a || b)
    both true true = refl
    both true false = refl
    both false true = refl
    both false false = refl

has_one_if : (of_client : Bool) (p : RecordKind → Bool) (n : Name) (r : Record) (clients : List Record) (kind : RecordKind) (b : Bool) → r.kind ≡ kind → is_named n r.name ≡ true →
    has p n clients ≡ b → has p n (joined_if of_client clients (r ∷ [])) ≡ ((of_client && p kind) || b)
has_one_if true p n r clients kind b is_kind is e = has_one p n r clients kind b is_kind is e
has_one_if false p n r clients kind b is_kind is e = e

pub own_name : (n : Name) → is_named n (Some n) ≡ true
own_name n = and_from _ _ (and_from _ _ (eq-eqb n.boot n.boot refl) (eq-eqb n.client n.client refl)) (eq-eqb n.seq n.seq refl)

pub goes_on : (d : Trace) (of_client : Bool) (kind : RecordKind) (e : Trace) → CountsOne d of_client kind e → GoesOn d of_client kind e
goes_on d of_client kind e by n clients all r is_kind is c =
    let named : is_named n r.name ≡ true = rw is (own_name n) in
    record {
      offered = times_one is_offered n r all kind d.offered is_kind named c.offered ∙ sym by.offered;
      retried = times_one is_retried n r all kind d.retried is_kind named c.retried ∙ sym by.retried;
      nacked_back = times_one is_settled_nack n r all kind d.nacked_back is_kind named c.nacked_back ∙ sym by.nacked_back;
      settled = times_one is_settled n r all kind d.settled is_kind named c.settled ∙ sym by.settled;
      taken = has_one_if of_client gives_name n r clients kind d.taken is_kind named c.taken ∙ sym by.taken;
      missing = has_one is_lost_one n r all kind d.missing is_kind named c.missing ∙ sym by.missing;
      refused = has_one is_refused n r all kind d.refused is_kind named c.refused ∙ sym by.refused;
      nacked = has_one is_nacked n r all kind d.nacked is_kind named c.nacked ∙ sym by.nacked;
      recalled = has_one is_discarding n r all kind d.recalled is_kind named c.recalled ∙ sym by.recalled;
    }

pub goes_on_if : (d : Trace) (of_client : Bool) (kind : RecordKind) (o : Option Trace) → IfSome o (λ e. CountsOne d of_client kind e) → IfSome o (λ e. GoesOn d of_client kind e)
goes_on_if d of_client kind None h = tt
goes_on_if d of_client kind (Some e) h = goes_on d of_client kind e h

-- one record more of another name
pub times_none : (p : RecordKind → Bool) (n : Name) (r : Record) (all : List Record) → is_named n r.name ≡ false → times p n (all ++ r ∷ []) ≡ times p n all
times_none p n r all off =
    times-append p n all (r ∷ [])
    ∙ (ap (λ x. times p n all + x) (sum_by-cons (λ x. if p x.kind && is_named n x.name then 1 else 0) r [])
    ∙ rw off (none (p r.kind) (times p n all)))
  where
    none : (b : Bool) (x : ℕ) → x + ((if b && false then 1 else 0) + 0) ≡ x
    none true x = omega arith
    none false x = omega arith

pub same_names : (m n : Name) → same_name m n ≡ true → m ≡ n
same_names m n h =
    let p = and_parts _ _ h in
    let q = and_parts _ _ p.0 in
    λ i. record { boot = eqb-true m.boot n.boot q.0 i; client = eqb-true m.client n.client q.1 i; seq = eqb-true m.seq n.seq p.1 i }
