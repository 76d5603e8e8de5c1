-- The values of a batch beside the turns of a session that was handed some of them.
use Rattle.std.proofs.Common.{◌≡◌, ℕ, zero, suc, ◌==◌, Bool, true, false, true≢false, List, [], ◌∷◌, ◌++◌, Option, Some, None, slice_get, slice_set, refl, sym, ap, ◌∙◌, subst, if◌then◌else◌}
use Rattle.std.proofs.lemmas.Bool.{eqb-true, eq-eqb}
use Rattle.mux_history.specs.declared.session.SessionId.{SessionId}
use Rattle.mux_model.specs.Steps.{Held}
use Rattle.hub_base.specs.Errands.{client_of, server_of, done, errand_at}
use Rattle.hub_base.specs.declared.errands.Errand.{Errand}
use Rattle.hub_base.specs.declared.errands.Value.{Value}
use Rattle.hub_base.specs.declared.errands.Value.TheVariants as value
use Rattle.hub_base.proofs.Places.{elsewhere}
use Rattle.hub_log.specs.declared.terms.Terms.{Terms}
use Rattle.hub_log.specs.Moves.{Claim, Move, gives_of, value_of}
use Rattle.hub_log.specs.Views.{View, Added, AddedAll, is_in, left_by}
use Rattle.hub_log.specs.Turns.{Turn, left_after, moves_by}
use Rattle.hub_places.specs.Holding.{GoesTo, Holds, held_in, held_of}
use Rattle.hub_places.proofs.Claiming.{fewer, not_used, put_at, used}

-- what was put at a place
pub set_held : (xs : List Errand) (at : ℕ) (e : Errand) (h : Held) → held_in (slice_set xs at e) at ≡ Some h → held_of e.value ≡ Some h
set_held [] at e h is = absurd (let no : None ≡ Some h = is in cc)
set_held (x ∷ xs) zero e h is = is
set_held (x ∷ xs) (suc at) e h is = set_held xs at e h is

set_goes : (xs : List Errand) (at : ℕ) (e : Errand) → GoesTo e.to e.value → GoesTo (errand_at (slice_set xs at e) at).to (errand_at (slice_set xs at e) at).value
set_goes [] at e goes = tt
set_goes (x ∷ xs) zero e goes = goes
set_goes (x ∷ xs) (suc at) e goes = set_goes xs at e goes

pub unequal : (i at : ℕ) → i ≡ at → (i == at) ≡ false → ⊥
unequal i at same is = true≢false (sym (eq-eqb i at same) ∙ is)

pub goes_set : (xs : List Errand) (at : ℕ) (e : Errand) → ((i : ℕ) → GoesTo (errand_at xs i).to (errand_at xs i).value) → GoesTo e.to e.value
    → (i : ℕ) → GoesTo (errand_at (slice_set xs at e) i).to (errand_at (slice_set xs at e) i).value
goes_set xs at e all goes i = by_test (i == at) refl
  where
    by_test : (b : Bool) → (i == at) ≡ b → GoesTo (errand_at (slice_set xs at e) i).to (errand_at (slice_set xs at e) i).value
    by_test true is = subst (λ n. GoesTo (errand_at (slice_set xs at e) n).to (errand_at (slice_set xs at e) n).value) (sym (eqb-true i at is)) (set_goes xs at e goes)
    by_test false is = subst (λ (x : Errand). GoesTo x.to x.value) (sym (elsewhere xs at i e (λ same. unequal i at same is))) (all i)

pub held_set : (xs : List Errand) (at : ℕ) (e : Errand) (o : Option Held) → ((h : Held) → held_of e.value ≡ Some h → o ≡ Some h)
    → (i : ℕ) (h : Held) → held_in (slice_set xs at e) i ≡ Some h → put_at at o (held_in xs) i ≡ Some h
held_set xs at e o put i h is = by_test (i == at) refl
  where
    by_test : (b : Bool) → (i == at) ≡ b → put_at at o (held_in xs) i ≡ Some h
    by_test true same = ap (λ b. if b then o else held_in xs i) same ∙ put h (set_held xs at e h (ap (held_in (slice_set xs at e)) (sym (eqb-true i at same)) ∙ is))
    by_test false other = ap (λ b. if b then o else held_in xs i) other ∙ (ap (λ (x : Errand). held_of x.value) (sym (elsewhere xs at i e (λ same. unequal i at same other))) ∙ is)

-- for whom a value is, by a word that names none where there is none
abbrev pub Names : (ℕ → Value → Option ℕ) → Type 0
Names of = (of 0 value.Nothing ≡ None) × ((to n : ℕ) (v : Value) → of to v ≡ Some n → (h : Held) × (held_of v ≡ Some h))

pub clients : Names client_of
clients = (refl, held)
  where
    held : (to n : ℕ) (v : Value) → client_of to v ≡ Some n → (h : Held) × (held_of v ≡ Some h)
    held to n (value.Unplaced t) is = (_, refl)
    held to n (value.Unrouted t) is = (_, refl)
    held to n (value.Placed p) is = (_, refl)
    held to n (value.Reply s) is = (_, refl)
    held to n value.Nothing is = absurd (let no : None ≡ Some n = is in cc)
    held to n (value.Ticket t) is = absurd (let no : None ≡ Some n = is in cc)
    held to n (value.Refused by t) is = absurd (let no : None ≡ Some n = is in cc)
    held to n (value.Recall r) is = absurd (let no : None ≡ Some n = is in cc)
    held to n value.Closing is = absurd (let no : None ≡ Some n = is in cc)

pub servers : Names server_of
servers = (refl, held)
  where
    held : (to n : ℕ) (v : Value) → server_of to v ≡ Some n → (h : Held) × (held_of v ≡ Some h)
    held to n (value.Ticket t) is = (_, refl)
    held to n (value.Recall r) is = (_, refl)
    held to n value.Nothing is = absurd (let no : None ≡ Some n = is in cc)
    held to n (value.Unplaced t) is = absurd (let no : None ≡ Some n = is in cc)
    held to n (value.Unrouted t) is = absurd (let no : None ≡ Some n = is in cc)
    held to n (value.Placed p) is = absurd (let no : None ≡ Some n = is in cc)
    held to n (value.Reply s) is = absurd (let no : None ≡ Some n = is in cc)
    held to n (value.Refused by t) is = absurd (let no : None ≡ Some n = is in cc)
    held to n value.Closing is = absurd (let no : None ≡ Some n = is in cc)

set_of : (of : ℕ → Value → Option ℕ) → of 0 value.Nothing ≡ None → (xs : List Errand) (at : ℕ) (e : Errand) → of e.to e.value ≡ None
    → of (errand_at (slice_set xs at e) at).to (errand_at (slice_set xs at e) at).value ≡ None
set_of of nothing [] at e none = nothing
set_of of nothing (x ∷ xs) zero e none = none
set_of of nothing (x ∷ xs) (suc at) e none = set_of of nothing xs at e none

-- what stands for somebody there isn't what was put
pub other_place : (of : ℕ → Value → Option ℕ) → of 0 value.Nothing ≡ None → (xs : List Errand) (at : ℕ) (e : Errand) → of e.to e.value ≡ None → (i n : ℕ)
    → of (errand_at (slice_set xs at e) i).to (errand_at (slice_set xs at e) i).value ≡ Some n → i ≡ at → ⊥
other_place of nothing xs at e none i n is same =
    (let no : None ≡ Some n = sym (set_of of nothing xs at e none) ∙ (ap (λ k. of (errand_at (slice_set xs at e) k).to (errand_at (slice_set xs at e) k).value) (sym same) ∙ is) in cc no)

-- a list of turns, and one more
pub moves_more : (id : SessionId) (xs : List Turn) (x : Turn) → moves_by id (xs ++ x ∷ []) ≡ moves_by id xs ++ record { session = id; deed = x.deed; uses = x.uses } ∷ []
moves_more id [] x = refl
moves_more id (y ∷ ys) x = ap (λ ms. record { session = id; deed = y.deed; uses = y.uses } ∷ ms) (moves_more id ys x)

pub left_more : (xs : List Turn) (x : Turn) (hs : List Claim) → left_after (xs ++ x ∷ []) hs ≡ left_by x.uses (left_after xs hs)
left_more [] x hs = refl
left_more (y ∷ ys) x hs = left_more ys x (left_by y.uses hs)

pub added_more : (t : Terms) (ms : List Move) (m : Move) (v w : View) → AddedAll t (ms ++ m ∷ []) v w → (u : View) × AddedAll t ms v u × Added t m u w
added_more t [] m v w all = (v, refl, subst (Added t m v) (sym all.2) all.1)
added_more t (x ∷ xs) m v w all = let r = added_more t xs m all.0 w all.2 in (r.0, (all.0, all.1, r.1), r.2)

-- the value that stood there is put there
unput : (zs : List Errand) (at i : ℕ) (h : Held) → put_at at (held_in zs at) (held_in zs) i ≡ Some h → held_in zs i ≡ Some h
unput zs at i h is = by_test (i == at) refl
  where
    by_test : (b : Bool) → (i == at) ≡ b → held_in zs i ≡ Some h
    by_test true same = ap (held_in zs) (eqb-true i at same) ∙ (ap (λ b. if b then held_in zs at else held_in zs i) (sym same) ∙ is)
    by_test false other = ap (λ b. if b then held_in zs at else held_in zs i) (sym other) ∙ is

-- the turns so far: what is for sessions of this kind is as it was before them, and unused; what they gave stands where
-- it was put
pub record Runs (t : Terms) (v : View) (xs : List Errand) (H : Holds v (held_in xs)) (id : SessionId) (of : ℕ → Value → Option ℕ) (turns : List Turn) (ys : List Errand) : Type 0 where
  pub left : (i n : ℕ) → of (errand_at ys i).to (errand_at ys i).value ≡ Some n
      → (is_in (H.claim i) (left_after turns v.hands) ≡ true) × (held_in ys i ≡ held_in xs i)
  pub goes : (i : ℕ) → GoesTo (errand_at ys i).to (errand_at ys i).value
  pub comes : (w : View) → AddedAll t (moves_by id turns) v w
      → (N : Holds w (held_in ys)) × ((i n : ℕ) → of (errand_at ys i).to (errand_at ys i).value ≡ Some n → N.claim i ≡ H.claim i)

module _ {t : Terms} {v : View} {xs : List Errand} {H : Holds v (held_in xs)} {id : SessionId} {of : ℕ → Value → Option ℕ} (names : Names of) where
  pub run_begun : ((i : ℕ) → GoesTo (errand_at xs i).to (errand_at xs i).value) → Runs t v xs H id of [] xs
  run_begun goes = record {
    left = λ i n is. let h = names.1 _ n _ is in ((H.there i h.0 h.1).0, refl);
    goes = goes;
    comes = λ w same. subst (λ u. (N : Holds u (held_in xs)) × ((i n : ℕ) → of (errand_at xs i).to (errand_at xs i).value ≡ Some n → N.claim i ≡ H.claim i)) (sym same) (H, λ i n is. refl);
  }

  -- the value at a place, which a turn may use
  pub is_there : {turns : List Turn} {ys : List Errand} → Runs t v xs H id of turns ys → (at n : ℕ) (k : Held) → of (errand_at ys at).to (errand_at ys at).value ≡ Some n → held_in ys at ≡ Some k
      → (is_in (H.claim at) (left_after turns v.hands) ≡ true) × (value_of (H.claim at) v.seen ≡ Some k)
  is_there run at n k to_it is = let l = run.left at n to_it in (l.0, (H.there at k (sym l.1 ∙ is)).1)

  -- a step that takes no turn
  pub run_stays : {turns : List Turn} {ys : List Errand} → Runs t v xs H id of turns ys → (at : ℕ) (e : Errand) (zs : List Errand) → of e.to e.value ≡ None
      → ((h : Held) → held_of e.value ≡ Some h → held_in ys at ≡ Some h) → GoesTo e.to e.value → zs ≡ slice_set ys at e → Runs t v xs H id of turns zs
  run_stays {turns = turns} {ys = ys} run at e zs none put goes set = subst (Runs t v xs H id of turns) (sym set) (record {
    left = λ i n is.
        let never = other_place of names.0 ys at e none i n is in
        let same = elsewhere ys at i e never in
        let l = run.left i n (ap (λ (x : Errand). of x.to x.value) (sym same) ∙ is) in
        (l.0, ap (λ (x : Errand). held_of x.value) same ∙ l.1);
    goes = goes_set ys at e run.goes goes;
    comes = λ w added.
        let c = run.comes w added in (
          fewer c.0 (λ i h is. unput ys at i h (held_set ys at e (held_in ys at) put i h is)),
          λ i n is.
              let never = other_place of names.0 ys at e none i n is in
              c.1 i n (ap (λ (x : Errand). of x.to x.value) (sym (elsewhere ys at i e never)) ∙ is),
        );
  })

  -- a turn that uses the value at a place, and puts there what it gives
  pub run_more : {turns : List Turn} {ys : List Errand} → Runs t v xs H id of turns ys → (at n : ℕ) (k : Held) → of (errand_at ys at).to (errand_at ys at).value ≡ Some n → held_in ys at ≡ Some k
      → (x : Turn) → x.uses ≡ Some (H.claim at) → (e : Errand) (zs : List Errand) → of e.to e.value ≡ None
      → ((h : Held) → held_of e.value ≡ Some h → slice_get (gives_of x.deed) 0 ≡ Some h) → GoesTo e.to e.value → zs ≡ slice_set ys at e
      → Runs t v xs H id of (turns ++ x ∷ []) zs
  run_more {turns = turns} {ys = ys} run at n k to_it is x uses e zs none given goes set = subst (Runs t v xs H id of (turns ++ x ∷ [])) (sym set) (record {
    left = λ i c of_it.
        let never = other_place of names.0 ys at e none i c of_it in
        let same = elsewhere ys at i e never in
        let l = run.left i c (ap (λ (y : Errand). of y.to y.value) (sym same) ∙ of_it) in
        let h = names.1 _ c _ (ap (λ (y : Errand). of y.to y.value) (sym same) ∙ of_it) in
        let there = run.left at n to_it in (
          subst (λ hs. is_in (H.claim i) hs ≡ true) (sym (left_more turns x v.hands))
              (subst (λ u. is_in (H.claim i) (left_by u (left_after turns v.hands)) ≡ true) (sym uses)
              (not_used H at i k h.0 (sym there.1 ∙ is) (sym l.1 ∙ h.1) never (left_after turns v.hands) l.0)),
          ap (λ (y : Errand). held_of y.value) same ∙ l.1,
        );
    goes = goes_set ys at e run.goes goes;
    comes = λ w added.
        let s = added_more t (moves_by id turns) (record { session = id; deed = x.deed; uses = x.uses }) v w (subst (λ ms. AddedAll t ms v w) (moves_more id turns x) added) in
        let c = run.comes s.0 s.1 in
        let u = used s.2 c.0 at k (held_of e.value) is (uses ∙ ap Some (sym (c.1 at n to_it))) given in (
          fewer u.0 (λ i h. held_set ys at e (held_of e.value) (λ h same. same) i h),
          λ i m of_it.
              let never = other_place of names.0 ys at e none i m of_it in
              u.1 i never ∙ c.1 i m (ap (λ (y : Errand). of y.to y.value) (sym (elsewhere ys at i e never)) ∙ of_it),
        );
  })

-- a value is let go, or stands there under another word
pub remarked : {v : View} (ys zs : List Errand) (at : ℕ) (e : Errand) → Holds v (held_in ys) → ((i : ℕ) → GoesTo (errand_at ys i).to (errand_at ys i).value)
    → ((h : Held) → held_of e.value ≡ Some h → held_in ys at ≡ Some h) → GoesTo e.to e.value → zs ≡ slice_set ys at e
    → Holds v (held_in zs) × ((i : ℕ) → GoesTo (errand_at zs i).to (errand_at zs i).value)
remarked {v = v} ys zs at e H goes put fits set =
    subst (λ es. Holds v (held_in es) × ((i : ℕ) → GoesTo (errand_at es i).to (errand_at es i).value)) (sym set)
    (fewer H (λ i h is. unput ys at i h (held_set ys at e (held_in ys at) put i h is)), goes_set ys at e goes fits)

pub dropped : {v : View} (ys zs : List Errand) (at : ℕ) → Holds v (held_in ys) → ((i : ℕ) → GoesTo (errand_at ys i).to (errand_at ys i).value) → zs ≡ slice_set ys at done
    → Holds v (held_in zs) × ((i : ℕ) → GoesTo (errand_at zs i).to (errand_at zs i).value)
dropped ys zs at H goes set = remarked ys zs at done H goes (λ g e. absurd (let no : None ≡ Some g = e in cc no)) tt set
