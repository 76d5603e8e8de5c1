-- The records of a class are those of its kinds.
use Rattle.std.proofs.Common.{ℕ, List, [], ◌∷◌, ◌+◌, ◌^◌, ◌≡◌, ◌<◌, ◌∙◌, refl, sym, Bool, arith, length}
use Rattle.std.specs.Prelude.{cond, sum_by}
use Rattle.std.proofs.lemmas.List.Sums.{count_by-le-length, sum_by-cons}
use Rattle.mux_history.specs.Counting.{capped, count_kind, is_took, is_took_drained, is_discarded, is_noted, is_passed, is_nacked, is_unrouted, is_failed, is_late, is_offered, is_settled, is_settled_nack, is_lost_one}
use Rattle.mux_history.specs.Packing.{shape_of}
use Rattle.mux_history.specs.declared.kind.RecordKind.{RecordKind}
use Rattle.mux_history.specs.declared.record.Record.{Record}
use Rattle.mux_history.specs.declared.shape.Shape.{Shape}
use Rattle.hub_close.specs.declared.count.Class.{Class}
use Rattle.hub_close.specs.declared.count.Class.TheVariants as classes
use Rattle.hub_close.specs.Totals.{count_of, counts}

-- the kinds of a class
abbrev pub kinds_of : Class → List (Shape → Bool)
kinds_of classes.Dispatch = is_took ∷ is_took_drained ∷ []
kinds_of classes.Reply = is_passed ∷ is_nacked ∷ is_unrouted ∷ is_failed ∷ is_discarded ∷ is_took_drained ∷ []
kinds_of classes.Gained = is_took ∷ is_settled ∷ is_settled_nack ∷ is_lost_one ∷ []
kinds_of classes.Used = is_passed ∷ is_nacked ∷ is_unrouted ∷ is_failed ∷ is_offered ∷ is_late ∷ []
kinds_of classes.Noted = is_noted ∷ []
kinds_of classes.Offered = is_offered ∷ []

one_kind : (c : Class) (k : RecordKind) → cond (counts c k) 1 0 ≡ sum_by (λ p. cond (p (shape_of k)) 1 0) (kinds_of c)
one_kind c k = grind arith

no_kind : (ps : List (Shape → Bool)) → sum_by (λ p. 0) ps ≡ 0
no_kind [] = refl
no_kind (p ∷ ps) = no_kind ps

both : (f g : (Shape → Bool) → ℕ) (ps : List (Shape → Bool)) → sum_by (λ p. f p + g p) ps ≡ sum_by f ps + sum_by g ps
both f g [] = refl
both f g (p ∷ ps) =
    omega (arith, sum_by-cons (λ q. f q + g q) p ps, sum_by-cons f p ps, sum_by-cons g p ps, both f g ps)

pub count_is : (c : Class) (rs : List Record) → count_of c rs ≡ sum_by (λ p. count_kind p rs) (kinds_of c)
count_is c [] = sym (no_kind (kinds_of c))
count_is c (r ∷ rs) =
    let one : (Shape → Bool) → ℕ = λ p. cond (p (shape_of r.kind)) 1 0 in
    let more : (Shape → Bool) → ℕ = λ p. count_kind p rs in
    let here : count_of c (r ∷ rs) ≡ sum_by one (kinds_of c) + sum_by more (kinds_of c) =
    omega (arith, sum_by-cons (λ x. cond (counts c x.kind) 1 0) r rs, one_kind c r.kind, count_is c rs) in
    here
    ∙ (sym (both one more (kinds_of c))
    ∙ λ i. sum_by (λ p. sym (sum_by-cons (λ x. cond (p (shape_of x.kind)) 1 0) r rs) i) (kinds_of c))

-- two counts of so few records that neither is cut off
pub as_many : (a b : Class) (rs : List Record) (n m : ℕ) → n ≡ capped (count_of a rs) → m ≡ capped (count_of b rs) → length rs < 2 ^ 64 → n ≡ m
    → count_of a rs ≡ count_of b rs
as_many a b rs n m is_n is_m few same =
    omega (arith, is_n, is_m, few, same, count_by-le-length (λ r. counts a r.kind) rs, count_by-le-length (λ r. counts b r.kind) rs)
