-- The lists of one boot, and what is counted in them.
use Rattle.std.proofs.Common.{ℕ, zero, suc, List, [], ◌∷◌, ◌++◌, ◌+◌, ◌≡◌, ◌≤◌, ◌&&◌, ◌⊎◌, inl, inr, Bool, true, false, not, Option, Some, None, refl, ap, arith}
use Rattle.std.specs.Prelude.{if◌then◌else◌, ◌==◌, filter}
use Rattle.std.proofs.lemmas.Bool.{and_parts, eqb-true, eq-eqb}
use Rattle.mux_history.specs.declared.name.Name.{Name}
use Rattle.mux_history.specs.declared.record.Record.{Record}
use Rattle.mux_history.specs.declared.kind.RecordKind.{RecordKind}
use Rattle.mux_agree.specs.Agree.{has}
use Rattle.mux_model.specs.Steps.{Step, entries, records, with_record}
use Rattle.mux_model.specs.Legal.{Line, EachLine, in_record, tally, total}
use Rattle.mux_agree.specs.Walk.{is_client}
use Rattle.mux_legal.specs.RunsBearOut.{is_clients_line, is_servers_line, of_boot}
use Rattle.mux_legal.proofs.Basics.{one_if, if_both}
use Rattle.mux_legal.proofs.EndsOnce.{has_counts}
use Rattle.mux_legal.proofs.ToldHolders.{occurs}
use Rattle.mux_legal.proofs.ToldDown.{not_both}
use Rattle.mux_legal.proofs.ToldWalk.{total as count, occurs_none}

-- a test finds a name where it counts it
pub has_one : (p : RecordKind → Bool) (n : Name) (rs : List Record) → has p n rs ≡ true → 1 ≤ occurs p n rs
has_one p n rs h = omega (arith, has_counts p n rs, ap one_if h)

pub one_has : (p : RecordKind → Bool) (n : Name) (rs : List Record) → 1 ≤ occurs p n rs → has p n rs ≡ true
one_has p n rs h = by_test (has p n rs) refl
  where
    by_test : (b : Bool) → has p n rs ≡ b → b ≡ true
    by_test true e = refl
    by_test false e = absurd (omega (arith, h, occurs_none p n rs e))

-- the records of entries are those of the steps
pub tally_occurs : (p : RecordKind → Bool) (n : Name) (steps : List Step) → tally p n (entries steps) ≡ occurs p n (records steps)
tally_occurs p n [] = refl
tally_occurs p n (s ∷ old) = by_record s.entry.rec (tally_occurs p n old)
  where
    by_record : (o : Option Record) → tally p n (entries old) ≡ occurs p n (records old) → in_record p n o + tally p n (entries old) ≡ occurs p n (with_record o (records old))
    by_record None e = omega (arith, e)
    by_record (Some r) e = omega (arith, e)

pub total_count : (p : RecordKind → Bool) (n : Name) (ls : List Line) → total p n ls ≡ count p n ls
total_count p n [] = refl
total_count p n (l ∷ ls) = omega (arith, tally_occurs p n l.steps, total_count p n ls)

count-append : (p : RecordKind → Bool) (n : Name) (a b : List Line) → count p n (a ++ b) ≡ count p n a + count p n b
count-append p n [] b = omega arith
count-append p n (l ∷ a) b = omega (arith, count-append p n a b)

pub zero_or_more : (x : ℕ) → (x ≡ 0) ⊎ (1 ≤ x)
zero_or_more zero = inl refl
zero_or_more (suc x) = inr (omega arith)

-- facts of lists
pub each_with : (P Q R : Line → Type 0) → ((l : Line) → P l → Q l → R l) → (ls : List Line) → EachLine P ls → EachLine Q ls → EachLine R ls
each_with P Q R go [] x y = tt
each_with P Q R go (l ∷ ls) x y = (go l x.0 y.0, each_with P Q R go ls x.1 y.1)

pub each_then : (P Q : Line → Type 0) → ((l : Line) → P l → Q l) → (ls : List Line) → EachLine P ls → EachLine Q ls
each_then P Q go [] x = tt
each_then P Q go (l ∷ ls) x = (go l x.0, each_then P Q go ls x.1)

each-append : (P : Line → Type 0) (a b : List Line) → EachLine P a → EachLine P b → EachLine P (a ++ b)
each-append P [] b x y = y
each-append P (l ∷ a) b x y = (x.0, each-append P a b x.1 y)

each_filter : (P Q : Line → Type 0) (f : Line → Bool) → ((l : Line) → f l ≡ true → P l → Q l) → (ls : List Line) → EachLine P ls → EachLine Q (filter f ls)
each_filter P Q f go [] x = tt
each_filter P Q f go (l ∷ ls) x =
    if_both (EachLine Q) (f l) (l ∷ filter f ls) (filter f ls) (λ e. (go l e x.0, each_filter P Q f go ls x.1)) (λ _. each_filter P Q f go ls x.1)

-- what holds of all lists holds of those of a boot, and each of these is of it
pub each_of_boot : (P Q : Line → Type 0) (b : ℕ) → ((l : Line) → l.boot ≡ b → P l → Q l) → (ls : List Line) → EachLine P ls → EachLine Q (of_boot b ls)
each_of_boot P Q b go ls x =
    each-append Q (filter (is_clients_line b) ls) (filter (is_servers_line b) ls)
    (each_filter P Q (is_clients_line b) (λ l e p. go l (eqb-true l.boot b (and_parts _ _ e).0) p) ls x)
    (each_filter P Q (is_servers_line b) (λ l e p. go l (eqb-true l.boot b (and_parts _ _ e).0) p) ls x)

module _ (p : RecordKind → Bool) (n : Name) (b : ℕ) where
  abbrev parts : List Line → ℕ
  parts ls = count p n (filter (is_clients_line b) ls) + count p n (filter (is_servers_line b) ls)

  abbrev split : Line → List Line → Bool → Bool → ℕ
  split l ls here client =
      count p n (if here && client then l ∷ filter (is_clients_line b) ls else filter (is_clients_line b) ls)
      + count p n (if here && not client then l ∷ filter (is_servers_line b) ls else filter (is_servers_line b) ls)

  split_here : (l : Line) (ls : List Line) (client : Bool) → split l ls true client ≡ occurs p n (records l.steps) + parts ls
  split_here l ls true = omega arith
  split_here l ls false = omega arith

  parts_most : (ls : List Line) → parts ls ≤ count p n ls
  parts_most [] = omega arith
  parts_most (l ∷ ls) = by_test (l.boot == b) (parts_most ls)
    where
      by_test : (x : Bool) → parts ls ≤ count p n ls → split l ls x (is_client l.session) ≤ occurs p n (records l.steps) + count p n ls
      by_test true h = omega (arith, h, split_here l ls (is_client l.session))
      by_test false h = omega (arith, h)

  parts_all : (ls : List Line) → EachLine (λ l. 1 ≤ occurs p n (records l.steps) → l.boot ≡ b) ls → count p n ls ≤ parts ls
  parts_all [] of_it = omega arith
  parts_all (l ∷ ls) of_it = by_test (l.boot == b) refl (parts_all ls of_it.1)
    where
      none : (l.boot == b) ≡ false → (1 ≤ occurs p n (records l.steps)) → ⊥
      none e h = not_both (l.boot == b) e (eq-eqb l.boot b (of_it.0 h))

      by_test : (x : Bool) → (l.boot == b) ≡ x → count p n ls ≤ parts ls → occurs p n (records l.steps) + count p n ls ≤ split l ls x (is_client l.session)
      by_test true e h = omega (arith, h, split_here l ls (is_client l.session))
      by_test false e h = elim (zero_or_more (occurs p n (records l.steps))) [ inl z ↦ omega (arith, h, z) | inr z ↦ absurd (none e z) ]

  -- a boot's lists have no more than all lists have, and all that is of the boot
  pub boot_most : (ls : List Line) → count p n (of_boot b ls) ≤ count p n ls
  boot_most ls = omega (arith, count-append p n (filter (is_clients_line b) ls) (filter (is_servers_line b) ls), parts_most ls)

  pub boot_all : (ls : List Line) → EachLine (λ l. 1 ≤ occurs p n (records l.steps) → l.boot ≡ b) ls → count p n ls ≤ count p n (of_boot b ls)
  boot_all ls of_it = omega (arith, count-append p n (filter (is_clients_line b) ls) (filter (is_servers_line b) ls), parts_all ls of_it)
