-- Claims in hand.
use Rattle.std.proofs.Common.{◌≡◌, ◌≢◌, ◌⊎◌, inl, inr, ⊎_elim, ℕ, ◌+◌, ◌<◌, ◌≤◌, ◌==◌, ◌||◌, ◌&&◌, not, Bool, true, false, true≢false, List, [], ◌∷◌, ◌++◌, Option, Some, None, refl, sym, ap, ◌∙◌, arith, if◌then◌else◌}
use Rattle.std.specs.List.{filter}
use Rattle.std.proofs.lemmas.Bool.{eqb-true, eq-eqb}
use Rattle.mux_model.specs.Steps.{Held}
use Rattle.hub_log.specs.Moves.{Claim, Move, gives_of}
use Rattle.hub_log.specs.Views.{same_claim, is_in, are_apart, claims_from, left_by, hands_after}

by_or : (b c : Bool) → (b || c) ≡ true → (b ≡ true) ⊎ (c ≡ true)
by_or true c h = inl refl
by_or false c h = inr h

or_right : (b c : Bool) → c ≡ true → (b || c) ≡ true
or_right true c h = refl
or_right false c h = h

both : (b c : Bool) → b ≡ true → c ≡ true → (b && c) ≡ true
both b c e f = ap (λ x. x && c) e ∙ f

by_and : (b c : Bool) → (b && c) ≡ true → (b ≡ true) × (c ≡ true)
by_and true c h = (refl, h)
by_and false c h = absurd (true≢false (sym h))

pub turned : (b : Bool) → (b ≡ true → ⊥) → not b ≡ true
turned true h = absurd (h refl)
turned false h = refl

pub is_turned : (b : Bool) → not b ≡ true → b ≡ true → ⊥
is_turned true h e = true≢false (sym h)
is_turned false h e = true≢false (sym e)

pub same_claims : (a b : Claim) → same_claim a b ≡ true → a ≡ b
same_claims a b h =
    let p = by_and (a.place == b.place) (a.which == b.which) h in
    λ i. record { place = eqb-true a.place b.place p.0 i; which = eqb-true a.which b.which p.1 i }

pub claim_same : (a : Claim) → same_claim a a ≡ true
claim_same a = both (a.place == a.place) (a.which == a.which) (eq-eqb a.place a.place refl) (eq-eqb a.which a.which refl)

pub in_append : (xs ys : List Claim) (c : Claim) → is_in c (xs ++ ys) ≡ true → (is_in c xs ≡ true) ⊎ (is_in c ys ≡ true)
in_append [] ys c h = inr h
in_append (x ∷ xs) ys c h = ⊎_elim
    (λ (e : same_claim x c ≡ true). inl (ap (λ b. b || is_in c xs) e))
    (λ (e : is_in c (xs ++ ys) ≡ true). ⊎_elim (λ (f : is_in c xs ≡ true). inl (or_right (same_claim x c) (is_in c xs) f)) (λ (f : is_in c ys ≡ true). inr f) (in_append xs ys c e))
    (by_or (same_claim x c) (is_in c (xs ++ ys)) h)

-- those that a test picks
pub in_filter : (p : Claim → Bool) (c : Claim) (hs : List Claim) → is_in c (filter p hs) ≡ true → (is_in c hs ≡ true) × (p c ≡ true)
in_filter p c [] h = absurd (true≢false (sym h))
in_filter p c (x ∷ xs) h = by_test (p x) refl h (in_filter p c xs)
  where
    by_test : (b : Bool) → p x ≡ b → is_in c (if b then x ∷ filter p xs else filter p xs) ≡ true
        → (is_in c (filter p xs) ≡ true → (is_in c xs ≡ true) × (p c ≡ true)) → (is_in c (x ∷ xs) ≡ true) × (p c ≡ true)
    by_test false e i further = let r = further i in (or_right (same_claim x c) (is_in c xs) r.0, r.1)
    by_test true e i further = ⊎_elim
        (λ (f : same_claim x c ≡ true). (ap (λ b. b || is_in c xs) f, ap p (sym (same_claims x c f)) ∙ e))
        (λ (f : is_in c (filter p xs) ≡ true). let r = further f in (or_right (same_claim x c) (is_in c xs) r.0, r.1))
        (by_or (same_claim x c) (is_in c (filter p xs)) i)

pub in_left : (o : Option Claim) (c : Claim) (hs : List Claim) → is_in c (left_by o hs) ≡ true → (is_in c hs ≡ true) × (o ≢ Some c)
in_left None c hs h = (h, λ e. absurd cc)
in_left (Some d) c hs h =
    let r = in_filter (λ x. not (same_claim x d)) c hs h in
    (r.0, λ e. is_turned (same_claim c d) r.1 (ap (same_claim c) (let same : d ≡ c = cc e in same) ∙ claim_same c))

-- those of one move
pub in_claims : (place which : ℕ) (gs : List Held) (c : Claim) → is_in c (claims_from place which gs) ≡ true → (c.place ≡ place) × (which ≤ c.which)
in_claims place which [] c h = absurd (true≢false (sym h))
in_claims place which (g ∷ gs) c h = ⊎_elim
    (λ (e : same_claim (record { place = place; which = which }) c ≡ true).
    let same = same_claims (record { place = place; which = which }) c e in
    (sym (ap (λ (x : Claim). x.place) same), (let w : which ≡ c.which = ap (λ (x : Claim). x.which) same in omega arith)))
    (λ (e : is_in c (claims_from place (which + 1) gs) ≡ true). let r = in_claims place (which + 1) gs c e in (r.0, (let w = r.1 in omega arith)))
    (by_or (same_claim (record { place = place; which = which }) c) (is_in c (claims_from place (which + 1) gs)) h)

-- that no claim stands twice
pub apart_append : (xs ys : List Claim) → are_apart xs ≡ true → are_apart ys ≡ true → ((c : Claim) → is_in c xs ≡ true → is_in c ys ≡ true → ⊥) → are_apart (xs ++ ys) ≡ true
apart_append [] ys ax ay none = ay
apart_append (x ∷ xs) ys ax ay none =
    let h = by_and (not (is_in x xs)) (are_apart xs) ax in
    both (not (is_in x (xs ++ ys))) (are_apart (xs ++ ys))
    (turned (is_in x (xs ++ ys)) (λ e. ⊎_elim (λ f. is_turned (is_in x xs) h.0 f) (λ f. none x (ap (λ b. b || is_in x xs) (claim_same x)) f) (in_append xs ys x e)))
    (apart_append xs ys h.1 ay (λ c i j. none c (or_right (same_claim x c) (is_in c xs) i) j))

pub apart_filter : (p : Claim → Bool) (hs : List Claim) → are_apart hs ≡ true → are_apart (filter p hs) ≡ true
apart_filter p [] h = refl
apart_filter p (x ∷ xs) h = let q = by_and (not (is_in x xs)) (are_apart xs) h in by_test (p x) q.0 (apart_filter p xs q.1)
  where
    by_test : (b : Bool) → not (is_in x xs) ≡ true → are_apart (filter p xs) ≡ true → are_apart (if b then x ∷ filter p xs else filter p xs) ≡ true
    by_test true n further = both (not (is_in x (filter p xs))) (are_apart (filter p xs)) (turned (is_in x (filter p xs)) (λ e. is_turned (is_in x xs) n (in_filter p x xs e).0)) further
    by_test false n further = further

apart_claims : (place which : ℕ) (gs : List Held) → are_apart (claims_from place which gs) ≡ true
apart_claims place which [] = refl
apart_claims place which (g ∷ gs) =
    both (not (is_in (record { place = place; which = which }) (claims_from place (which + 1) gs))) (are_apart (claims_from place (which + 1) gs))
    (turned (is_in (record { place = place; which = which }) (claims_from place (which + 1) gs)) (λ e. let r = (in_claims place (which + 1) gs (record { place = place; which = which }) e).1 in omega arith))
    (apart_claims place (which + 1) gs)

apart_left : (o : Option Claim) (hs : List Claim) → are_apart hs ≡ true → are_apart (left_by o hs) ≡ true
apart_left None hs h = h
apart_left (Some c) hs h = apart_filter (λ x. not (same_claim x c)) hs h

-- what is in hand after a move: what was, and wasn't used, or what it gave
pub in_hand : (m : Move) (place : ℕ) (hs : List Claim) (c : Claim) → is_in c (hands_after m place hs) ≡ true → ((is_in c hs ≡ true) × (m.uses ≢ Some c)) ⊎ (c.place ≡ place)
in_hand m place hs c h = ⊎_elim
    (λ (x : is_in c (left_by m.uses hs) ≡ true). inl (in_left m.uses c hs x))
    (λ (x : is_in c (claims_from place 0 (gives_of m.deed)) ≡ true). inr (in_claims place 0 (gives_of m.deed) c x).0)
    (in_append (left_by m.uses hs) (claims_from place 0 (gives_of m.deed)) c h)

pub apart_after : (m : Move) (place : ℕ) (hs : List Claim) → are_apart hs ≡ true → ((c : Claim) → is_in c hs ≡ true → c.place < place) → are_apart (hands_after m place hs) ≡ true
apart_after m place hs h below =
    apart_append (left_by m.uses hs) (claims_from place 0 (gives_of m.deed)) (apart_left m.uses hs h) (apart_claims place 0 (gives_of m.deed))
    (λ c i j. let lt = below c (in_left m.uses c hs i).0 in let at = (in_claims place 0 (gives_of m.deed) c j).0 in omega arith)
