-- Counts of lists that grow.
use Rattle.std.proofs.Common.{ℕ, List, [], ◌∷◌, ◌++◌, ◌+◌, ◌≡◌, ◌<◌, ◌≤◌, ◌-◌, ◌^◌, ◌∙◌, ap, sym, Bool, arith, length, take, get_or}
use Rattle.std.specs.Prelude.{cond, max}
use Rattle.std.proofs.lemmas.List.{take_more}
use Rattle.std.proofs.lemmas.List.Sums.{sum_by-append, sum_by_push, count_by-le-length}
use Rattle.mux_history.specs.Counting.{Each, IsCount, CountsOne, IsSum, capped, count_kind}
use Rattle.mux_history.specs.declared.counts.KindCounts.{KindCounts}
use Rattle.mux_history.specs.declared.record.Record.{Record}
use Rattle.mux_history.specs.declared.shape.Shape.{Shape}
use Rattle.mux_history.specs.Packing.{shape_of}

-- what follows from two facts of a count follows of each
each : {R S T : (Shape → Bool) → (KindCounts → ℕ) → Type 0}
    → ((p : Shape → Bool) (count : KindCounts → ℕ) → R p count → S p count → T p count) → Each R → Each S → Each T
each f r s = record {
  took = f _ _ r.took s.took;
  took_drained = f _ _ r.took_drained s.took_drained;
  discarded = f _ _ r.discarded s.discarded;
  noted = f _ _ r.noted s.noted;
  passed = f _ _ r.passed s.passed;
  nacked = f _ _ r.nacked s.nacked;
  unrouted = f _ _ r.unrouted s.unrouted;
  failed = f _ _ r.failed s.failed;
  retried = f _ _ r.retried s.retried;
  late = f _ _ r.late s.late;
  offered = f _ _ r.offered s.offered;
  settled = f _ _ r.settled s.settled;
  settled_nack = f _ _ r.settled_nack s.settled_nack;
  lost_one = f _ _ r.lost_one s.lost_one;
}

one_more : (n new old sum one : ℕ) → old ≡ capped n → new ≡ max old (capped (old + one)) → sum ≡ n + one → new ≡ capped sum
one_more n new old sum one was now all = omega (arith, was, now, all)

pub counts_push : (old new : KindCounts) (rs all : List Record) (r : Record) (shape : Shape) → IsCount old rs → CountsOne shape old new
    → shape ≡ shape_of r.kind → all ≡ rs ++ r ∷ [] → IsCount new all
counts_push old new rs all r shape was now is grown =
    each
    {R = λ p count. count old ≡ capped (count_kind p rs)}
    {S = λ p count. count new ≡ max (count old) (capped (count old + cond (p shape) 1 0))}
    {T = λ p count. count new ≡ capped (count_kind p all)}
    (λ p count is_old is_new.
    one_more (count_kind p rs) (count new) (count old) (count_kind p all) (cond (p shape) 1 0) is_old is_new
    (ap (count_kind p) grown
    ∙ (sum_by_push (λ x. cond (p (shape_of x.kind)) 1 0) rs r ∙ sym (ap (λ k. count_kind p rs + cond (p k) 1 0) is))))
    was
    now

bounded : (n k l : ℕ) → n ≡ capped k → k ≤ l → l < 2 ^ 64 - 1 → n < 2 ^ 64 - 1
bounded n k l is low short = omega (arith, is, low, short)

-- a list of fewer records than a count holds fills none
pub has_room : (c : KindCounts) (rs : List Record) → IsCount c rs → length rs < 2 ^ 64 - 1 → Each (λ p count. count c < 2 ^ 64 - 1)
has_room c rs is short =
    each
    {R = λ p count. count c ≡ capped (count_kind p rs)}
    {S = λ p count. count c ≡ capped (count_kind p rs)}
    {T = λ p count. count c < 2 ^ 64 - 1}
    (λ p count a b. bounded (count c) (count_kind p rs) (length rs) a (count_by-le-length (λ (r : Record). p (shape_of r.kind)) rs) short)
    is
    is

-- one record further
pub counts_more : (old new : KindCounts) (rs : List Record) (i : ℕ) (d r : Record) (shape : Shape) → i < length rs
    → IsCount old (take i rs) → CountsOne shape old new → shape ≡ shape_of r.kind → r ≡ get_or rs i d → IsCount new (take (i + 1) rs)
counts_more old new rs i d r shape h was now is met =
    counts_push old new (take i rs) (take (i + 1) rs) r shape was now is (take_more rs i d h ∙ sym (ap (λ x. take i rs ++ x ∷ []) met))

two_sums : (n m a b c all : ℕ) → a ≡ capped n → b ≡ capped m → c ≡ capped (a + b) → all ≡ n + m → c ≡ capped all
two_sums n m a b c all is_a is_b is_c sum = omega (arith, is_a, is_b, is_c, sum)

-- of one list behind another
pub counts-append : (a b c : KindCounts) (xs ys : List Record) → IsCount a xs → IsCount b ys → IsSum a b c → IsCount c (xs ++ ys)
counts-append a b c xs ys is_a is_b is_c =
    each
    {R = λ p count. (count a ≡ capped (count_kind p xs)) × (count b ≡ capped (count_kind p ys))}
    {S = λ p count. count c ≡ capped (count a + count b)}
    {T = λ p count. count c ≡ capped (count_kind p (xs ++ ys))}
    (λ p count both sum.
    two_sums (count_kind p xs) (count_kind p ys) (count a) (count b) (count c) (count_kind p (xs ++ ys)) both.0 both.1 sum
    (sum_by-append (λ x. cond (p (shape_of x.kind)) 1 0) xs ys))
    (each
    {R = λ p count. count a ≡ capped (count_kind p xs)}
    {S = λ p count. count b ≡ capped (count_kind p ys)}
    {T = λ p count. (count a ≡ capped (count_kind p xs)) × (count b ≡ capped (count_kind p ys))}
    (λ p count x y. (x, y))
    is_a
    is_b)
    is_c
