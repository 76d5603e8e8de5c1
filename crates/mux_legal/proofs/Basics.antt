-- Tests, names and counts.
use Rattle.std.proofs.Common.{ℕ, List, [], ◌∷◌, ◌++◌, ◌+◌, ◌≡◌, Bool, true, false, Option, Some, None, refl, ◌∙◌, ap, arith, ◌≤◌, subst, ◌⊎◌, inl, inr, ◌&&◌, not, ◌||◌}
use Rattle.std.specs.Prelude.{if◌then◌else◌, nat_lt}
use Rattle.std.specs.List.{AllByRecursion}
use Rattle.std.proofs.lemmas.Bool.{eqb-true, eq-eqb, and_parts, and_from}
use Rattle.mux_history.specs.declared.name.Name.{Name}
use Rattle.mux_history.specs.declared.record.Record.{Record}
use Rattle.mux_history.specs.declared.kind.RecordKind.{RecordKind}
use Rattle.mux_model.specs.Entries.{Exchange}
use Rattle.mux_history.specs.Readings.{same_name, is_named, gives_name, Sending, least, lesser}
use Rattle.mux_model.specs.Steps.{Held, Outcome, Refused, Unrecorded, Recorded}
use Rattle.mux_model.specs.Legal.{Line, SomeLine, IsTakenIn, total}
use Rattle.mux_frame.specs.Spelling.{MuxFrame}

pub not_false : (x : Bool) → not x ≡ false → x ≡ true
not_false true e = refl
not_false false e = absurd (cc)

pub not_true : (x : Bool) → not x ≡ true → x ≡ false
not_true true e = absurd (cc)
not_true false e = refl

pub or_true : (b : Bool) → (b || true) ≡ true
or_true true = refl
or_true false = refl

-- a test counts as 1 where it passes
abbrev pub one_if : Bool → ℕ
one_if b = if b then 1 else 0

pub one_at_most : (a b : Bool) → one_if (a && b) ≤ one_if b
one_at_most true b = omega arith
one_at_most false b = omega arith

pub counts_none : (a b : Bool) → (a ≡ true → ⊥) → one_if (a && b) ≡ 0
counts_none true b h = absurd (h refl)
counts_none false b h = refl

-- what holds of both branches holds of the choice
pub if_both : {A : Type 0} (Q : A → Type 0) (b : Bool) (x y : A) → (b ≡ true → Q x) → (b ≡ false → Q y) → Q (if b then x else y)
if_both Q true x y f g = f refl
if_both Q false x y f g = g refl

pub same_names : (m n : Name) → same_name m n ≡ true → m ≡ n
same_names m n h =
    let p = and_parts _ _ h in
    let q = and_parts _ _ p.0 in
    λ i. record { boot = eqb-true m.boot n.boot q.0 i; client = eqb-true m.client n.client q.1 i; seq = eqb-true m.seq n.seq p.1 i }

pub named_same : (n : Name) → same_name n n ≡ true
named_same n =
    and_from _ _ (and_from _ _ (eq-eqb n.boot n.boot refl) (eq-eqb n.client n.client refl)) (eq-eqb n.seq n.seq refl)

-- a name that is told is the name
pub named : (n : Name) (o : Option Name) → is_named n o ≡ true → o ≡ Some n
named n None h = absurd (cc)
named n (Some m) h = ap Some (same_names m n h)

pub is_its_name : (n : Name) (o : Option Name) → o ≡ Some n → is_named n o ≡ true
is_its_name n o e = ap (is_named n) e ∙ named_same n

-- the least of a list is in it
lesser_is : (s : Sending) (o : Option Sending) (m : Sending) → lesser s o ≡ Some m → (s ≡ m) ⊎ (o ≡ Some m)
lesser_is s None m e = inl (cc)
lesser_is s (Some x) m e = by_test (nat_lt s.tag x.tag) e
  where
    by_test : (b : Bool) → (if b then Some s else Some x) ≡ Some m → (s ≡ m) ⊎ (Some x ≡ Some m)
    by_test true h = inl (cc)
    by_test false h = inr h

pub least_passes : (P : Sending → Type 0) (ss : List Sending) (m : Sending) → AllByRecursion P ss → least ss ≡ Some m → P m
least_passes P [] m a e = absurd (cc)
least_passes P (s ∷ ss) m a e = elim (lesser_is s (least ss) m e) [ inl x ↦ subst P x a.0 | inr x ↦ least_passes P ss m a.1 x ]

-- a step's outcome, if it has an entry
abbrev pub OnRecorded : Outcome → (Exchange → List Held → Type 0) → Type 0
OnRecorded (Recorded e gives) P = P e gives
OnRecorded _ P = Unit {0}

pub on_recorded : (o : Outcome) (P Q : Exchange → List Held → Type 0) → ((e : Exchange) (gives : List Held) → P e gives → Q e gives) → OnRecorded o P → OnRecorded o Q
on_recorded (Refused why) P Q go p = tt
on_recorded Unrecorded P Q go p = tt
on_recorded (Recorded e gives) P Q go p = go e gives p

pub on_both : (o : Outcome) (P Q R : Exchange → List Held → Type 0) → ((e : Exchange) (gives : List Held) → P e gives → Q e gives → R e gives) → OnRecorded o P → OnRecorded o Q → OnRecorded o R
on_both (Refused why) P Q R go p q = tt
on_both Unrecorded P Q R go p q = tt
on_both (Recorded e gives) P Q R go p q = go e gives p q

-- nothing is said of an outcome
pub on_any : (o : Outcome) → OnRecorded o (λ e gives. Unit {0})
on_any (Refused why) = tt
on_any Unrecorded = tt
on_any (Recorded e gives) = tt

-- how many dispatches a list of entries has named
abbrev pub given_in : Option Record → ℕ
given_in None = 0
given_in (Some r) = if gives_name r.kind then 1 else 0

abbrev pub given : List Exchange → ℕ
given [] = 0
given (e ∷ old) = given_in e.rec + given old

-- a copy of a dispatch is one that was taken under its name
abbrev pub IsCopied : List Line → Name → Option MuxFrame → Type 0
IsCopied ls n None = Unit {0}
IsCopied ls n (Some f) = SomeLine (IsTakenIn n f) ls

pub total-append : (p : RecordKind → Bool) (n : Name) (a b : List Line) → total p n (a ++ b) ≡ total p n a + total p n b
total-append p n [] b = omega arith
total-append p n (l ∷ a) b = omega (arith, total-append p n a b)
