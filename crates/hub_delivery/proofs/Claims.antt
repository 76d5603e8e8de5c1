-- The claims of a batch, while its values are aimed, taken out and put back.
use Rattle.std.proofs.Common.{◌≡◌, ◌+◌, ◌-◌, ◌==◌, ℕ, zero, suc, Bool, true, false, true≢false, List, [], ◌∷◌, Option, Some, None, slice_set, refl, sym, ap, ◌∙◌, subst, arith, if◌then◌else◌}
use Rattle.std.proofs.lemmas.Bool.{eq-eqb, eqb-true, ne_eqb}
use Rattle.mux_model.specs.Steps.{Held}
use Rattle.hub_log.specs.Views.{View}
use Rattle.translate_book.specs.Values.{TicketView}
use Rattle.std.proofs.lemmas.Option.{none-some}
use Rattle.client_session.specs.Past.{Past}
use Rattle.kept_session.specs.Reached.{Kept}
use Rattle.hub_base.specs.Errands.{done, errand_at, give_back, give_back_value, refused, send_at, ticket_at, ticket_of}
use Rattle.hub_base.specs.declared.errands.Back.{Back}
use Rattle.hub_base.specs.declared.errands.Back.TheVariants as why
use Rattle.hub_base.specs.declared.errands.Errand.{Errand}
use Rattle.hub_base.specs.declared.errands.Value.{Value}
use Rattle.hub_base.specs.declared.errands.Value.TheVariants as value
use Rattle.hub_base.proofs.Places.{elsewhere}
use Rattle.hub_steps.specs.Batches.{ServesUp, after_offer}
use Rattle.hub_steps.specs.Batches as batches
use Rattle.hub_steps.specs.Up.{Makes}
use Rattle.hub_places.specs.Holding.{GoesTo, HasClaims, Holds, beside, held_in, held_of}
use Rattle.hub_delivery.proofs.Aiming.{is_ticket, sent_set}

abbrev GoesRight : Errand → Type 0
GoesRight e = GoesTo e.to e.value

-- the same values, each at a place of its own
held_elsewhere : {v : View} {f g : ℕ → Option Held} → (p : ℕ → ℕ) → (H : Holds v f)
    → ((i : ℕ) (h : Held) → g i ≡ Some h → f (p i) ≡ Some h)
    → ((i j : ℕ) (h k : Held) → g i ≡ Some h → g j ≡ Some k → p i ≡ p j → i ≡ j) → Holds v g
held_elsewhere p H from one = record {
  claim = λ i. H.claim (p i);
  there = λ i h e. H.there (p i) h (from i h e);
  apart = λ i j h k x y same. one i j h k x y (H.apart (p i) (p j) h k (from i h x) (from j k y) same);
}

-- what is so of the one that is put is so of all
put_keeps : (P : Errand → Type 0) (xs : List Errand) (at i : ℕ) (e : Errand) → (P (errand_at xs at) → P e)
    → P (errand_at xs i) → P (errand_at (slice_set xs at e) i)
put_keeps P [] at i e put was = was
put_keeps P (x ∷ xs) zero zero e put was = put was
put_keeps P (x ∷ xs) zero (suc i) e put was = was
put_keeps P (x ∷ xs) (suc at) zero e put was = was
put_keeps P (x ∷ xs) (suc at) (suc i) e put was = put_keeps P xs at i e put was

-- one is put that is the same in hand
held_put : (xs : List Errand) (at i : ℕ) (e : Errand) → held_of e.value ≡ held_in xs at
    → held_in (slice_set xs at e) i ≡ held_in xs i
held_put [] at i e same = refl
held_put (x ∷ xs) zero zero e same = same
held_put (x ∷ xs) zero (suc i) e same = refl
held_put (x ∷ xs) (suc at) zero e same = refl
held_put (x ∷ xs) (suc at) (suc i) e same = held_put xs at i e same

claims_put : (v : View) (xs : List Errand) (at : ℕ) (e : Errand) → held_of e.value ≡ held_in xs at
    → (GoesRight (errand_at xs at) → GoesRight e) → HasClaims v xs → HasClaims v (slice_set xs at e)
claims_put v xs at e same right has = record {
  holds = held_elsewhere (λ i. i) has.holds (λ i h is. sym (held_put xs at i e same) ∙ is) (λ i j h k x y is. is);
  goes = λ i. put_keeps GoesRight xs at i e right (has.goes i);
}

-- a dispatch that goes back is the same in hand
held_back : (word : Back) (to : ℕ) (v : Value) → held_of (give_back_value word to v).value ≡ held_of v
held_back why.Unplaced to (value.Ticket t) = refl
held_back why.Unrouted to (value.Ticket t) = refl
held_back word to value.Nothing = refl
held_back word to (value.Refused by t) = refl
held_back word to (value.Unplaced t) = refl
held_back word to (value.Unrouted t) = refl
held_back word to (value.Placed p) = refl
held_back word to (value.Reply s) = refl
held_back word to (value.Recall r) = refl
held_back word to value.Closing = refl

goes_back : (word : Back) (to : ℕ) (v : Value) → GoesTo to v → GoesRight (give_back_value word to v)
goes_back why.Unplaced to (value.Ticket t) right = refl
goes_back why.Unrouted to (value.Ticket t) right = refl
goes_back word to value.Nothing right = right
goes_back word to (value.Refused by t) right = right
goes_back word to (value.Unplaced t) right = right
goes_back word to (value.Unrouted t) right = right
goes_back word to (value.Placed p) right = right
goes_back word to (value.Reply s) right = right
goes_back word to (value.Recall r) right = right
goes_back word to value.Closing right = right

pub back_claims : (word : Back) (ys xs zs : List Errand) (at : ℕ) → ys ≡ xs
    → zs ≡ slice_set ys at (give_back word (errand_at ys at)) → (v : View) → HasClaims v xs → HasClaims v zs
back_claims word ys xs zs at same put v has =
    subst (HasClaims v) (sym (put ∙ ap (λ es. slice_set es at (give_back word (errand_at es at))) same))
    (claims_put v xs at (give_back word (errand_at xs at)) (held_back word (errand_at xs at).to (errand_at xs at).value)
    (goes_back word (errand_at xs at).to (errand_at xs at).value) has)

-- a dispatch may be sent to any server
goes_anywhere : (n : ℕ) (v : Value) (ticket : TicketView) → ticket_of v ≡ Some ticket → GoesTo n v
goes_anywhere n v ticket is = subst (GoesTo n) (sym (is_ticket v ticket is)) tt

pub sent_claims : (ys xs zs : List Errand) (at n : ℕ) (ticket : TicketView) → ys ≡ xs → zs ≡ send_at ys at n
    → ticket_at xs at ≡ Some ticket → (v : View) → HasClaims v xs → HasClaims v zs
sent_claims ys xs zs at n ticket same put is v has =
    subst (HasClaims v) (sym (put ∙ ap (λ es. send_at es at n) same ∙ sent_set xs at n))
    (claims_put v xs at (record (errand_at xs at) { to = n }) refl
    (λ was. goes_anywhere n (errand_at xs at).value ticket is) has)

-- what is left where one was taken out
none_taken : (xs : List Errand) (at : ℕ) → held_in (slice_set xs at done) at ≡ None
none_taken [] at = refl
none_taken (x ∷ xs) zero = refl
none_taken (x ∷ xs) (suc at) = none_taken xs at

less_taken : (xs : List Errand) (at i : ℕ) (h : Held) → held_in (slice_set xs at done) i ≡ Some h → held_in xs i ≡ Some h
less_taken [] at i h is = is
less_taken (x ∷ xs) zero zero h is = absurd (let no : None ≡ Some h = is in cc)
less_taken (x ∷ xs) zero (suc i) h is = is
less_taken (x ∷ xs) (suc at) zero h is = is
less_taken (x ∷ xs) (suc at) (suc i) h is = less_taken xs at i h is

other_taken : (xs : List Errand) (at i : ℕ) (h : Held) → held_in (slice_set xs at done) i ≡ Some h → i ≡ at → ⊥
other_taken xs at i h is same =
    absurd (let no : None ≡ Some h = sym (none_taken xs at) ∙ ap (held_in (slice_set xs at done)) (sym same) ∙ is in cc)

not_same : (i at : ℕ) → (i == at) ≡ false → i ≡ at → ⊥
not_same i at other same = true≢false (sym (eq-eqb i at same) ∙ other)

-- the one that was taken out stands in front of the others
from_taken : (o : Option Held) (xs : List Errand) (at i : ℕ) (h : Held) (b : Bool) → o ≡ held_in xs at
    → (if b then o else held_in (slice_set xs at done) (i - 1)) ≡ Some h → held_in xs (if b then at else i - 1) ≡ Some h
from_taken o xs at i h true same is = sym same ∙ is
from_taken o xs at i h false same is = less_taken xs at (i - 1) h is

one_taken : (o : Option Held) (xs : List Errand) (at i j : ℕ) (h k : Held) (b c : Bool) → (i == 0) ≡ b → (j == 0) ≡ c
    → (if b then o else held_in (slice_set xs at done) (i - 1)) ≡ Some h
    → (if c then o else held_in (slice_set xs at done) (j - 1)) ≡ Some k
    → (if b then at else i - 1) ≡ (if c then at else j - 1) → i ≡ j
one_taken o xs at i j h k true true bi cj x y same = eqb-true i 0 bi ∙ sym (eqb-true j 0 cj)
one_taken o xs at i j h k true false bi cj x y same = absurd (other_taken xs at (j - 1) k y (sym same))
one_taken o xs at i j h k false true bi cj x y same = absurd (other_taken xs at (i - 1) h x same)
one_taken o xs at i j h k false false bi cj x y same = less_one i j (not_same i 0 bi) (not_same j 0 cj) same
  where
    less_one : (i j : ℕ) → (i ≡ 0 → ⊥) → (j ≡ 0 → ⊥) → i - 1 ≡ j - 1 → i ≡ j
    less_one zero j ni nj is = absurd (ni refl)
    less_one (suc i) zero ni nj is = absurd (nj refl)
    less_one (suc i) (suc j) ni nj is = omega (arith, is)

pub taken_beside : (v : View) (xs taken : List Errand) (at : ℕ) (e : Errand) → e ≡ errand_at xs at
    → taken ≡ slice_set xs at done → HasClaims v xs → Holds v (beside (held_of e.value) taken)
taken_beside v xs taken at e is took has =
    subst (λ ys. Holds v (beside (held_of e.value) ys)) (sym took)
    (let same : held_of e.value ≡ held_in xs at = ap (λ (x : Errand). held_of x.value) is in
    held_elsewhere (λ i. if i == 0 then at else i - 1) has.holds
    (λ i h. from_taken (held_of e.value) xs at i h (i == 0) same)
    (λ i j h k. one_taken (held_of e.value) xs at i j h k (i == 0) (j == 0) refl refl))

-- what came of it is put back
here_put : (xs : List Errand) (at : ℕ) (made : Errand) (h : Held) → held_in (slice_set xs at made) at ≡ Some h
    → held_of made.value ≡ Some h
here_put [] at made h is = absurd (let no : None ≡ Some h = is in cc)
here_put (x ∷ xs) zero made h is = is
here_put (x ∷ xs) (suc at) made h is = here_put xs at made h is

next_beside : (o : Option Held) (xs : List Errand) (i : ℕ) → beside o xs (i + 1) ≡ held_in xs i
next_beside o xs i =
    ap (λ b. if b then o else held_in xs (i + 1 - 1)) (ne_eqb (i + 1) 0 (λ is. omega (arith, is)))
    ∙ ap (held_in xs) (let less : i + 1 - 1 ≡ i = omega arith in less)

from_put : (made : Errand) (xs : List Errand) (at i : ℕ) (h : Held) (b : Bool) → (i == at) ≡ b
    → held_in (slice_set xs at made) i ≡ Some h → beside (held_of made.value) xs (if b then 0 else i + 1) ≡ Some h
from_put made xs at i h true bi is =
    here_put xs at made h (ap (held_in (slice_set xs at made)) (sym (eqb-true i at bi)) ∙ is)
from_put made xs at i h false bi is =
    next_beside (held_of made.value) xs i
    ∙ ap (λ (e : Errand). held_of e.value) (sym (elsewhere xs at i made (not_same i at bi))) ∙ is

one_put : (at i j : ℕ) (b c : Bool) → (i == at) ≡ b → (j == at) ≡ c → (if b then 0 else i + 1) ≡ (if c then 0 else j + 1) → i ≡ j
one_put at i j true true bi cj same = eqb-true i at bi ∙ sym (eqb-true j at cj)
one_put at i j true false bi cj same = absurd (omega (arith, same))
one_put at i j false true bi cj same = absurd (omega (arith, same))
one_put at i j false false bi cj same = omega (arith, same)

pub put_beside : (v : View) (xs taken zs : List Errand) (at : ℕ) (made : Errand) → taken ≡ slice_set xs at done
    → zs ≡ slice_set taken at made → ((i : ℕ) → GoesTo (errand_at xs i).to (errand_at xs i).value)
    → GoesTo made.to made.value → Holds v (beside (held_of made.value) taken) → HasClaims v zs
put_beside v xs taken zs at made took put goes right has =
    let others : (i : ℕ) → GoesRight (errand_at taken i) =
    subst (λ ys. (i : ℕ) → GoesRight (errand_at ys i)) (sym took) (λ i. put_keeps GoesRight xs at i done (λ was. tt) (goes i)) in
    subst (HasClaims v) (sym put) (record {
      holds = held_elsewhere (λ i. if i == at then 0 else i + 1) has
          (λ i h. from_put made taken at i h (i == at) refl)
          (λ i j h k x y. one_put at i j (i == at) (j == at) refl refl);
      goes = λ i. put_keeps GoesRight taken at i made (λ was. right) (others i);
    })

-- one is no more in hand
claims_taken : (v : View) (xs : List Errand) (at : ℕ) → HasClaims v xs → HasClaims v (slice_set xs at done)
claims_taken v xs at has = record {
  holds = held_elsewhere (λ i. i) has.holds (λ i h is. less_taken xs at i h is) (λ i j h k x y is. is);
  goes = λ i. put_keeps GoesRight xs at i done (λ was. tt) (has.goes i);
}

none_after : (t u : Option Kept) (R : Past → Past → Type 0) → t ≡ None → Makes t u R → u ≡ None
none_after None u R is made = made
none_after (Some s) u R is made = absurd (none-some s (sym is))

-- dispatches that a slot with no session refuses are the same in hand
refused_since : (v : View) (now n : ℕ) (xs : List Errand) (u : Option Kept) (zs : List Errand)
    → ServesUp now n None xs u zs → (u ≡ None) × (HasClaims v xs → HasClaims v zs)
refused_since v now n xs u zs batches.ServesUp.none = (refl, λ has. has)
refused_since v now n xs u zs (batches.ServesUp.offer {t} {ys} at ticket result here step gone put q) =
    let (none, since) = refused_since v now n xs t ys q in (
      none_after t u _ none step,
      λ has. subst (HasClaims v) (sym (put ∙ ap (λ r. slice_set ys at (after_offer n r)) (gone none)))
          (claims_put v ys at (refused n ticket) (sym (ap (λ (e : Errand). held_of e.value) here)) (λ was. tt) (since has)),
    )
refused_since v now n xs u zs (batches.ServesUp.recall {t} {ys} at r result here step gone put q) =
    let (none, since) = refused_since v now n xs t ys q in (
      none_after t u _ none step,
      λ has. subst (HasClaims v) (sym put) (claims_taken v ys at (since has)),
    )

pub refused_claims : (v : View) (now n : ℕ) (xs zs : List Errand) → ServesUp now n None xs None zs
    → HasClaims v xs → HasClaims v zs
refused_claims v now n xs zs steps = (refused_since v now n xs None zs steps).1
