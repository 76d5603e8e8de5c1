-- What one more move leaves of the values in hand.
use Rattle.std.proofs.Common.{◌≡◌, ℕ, ◌≤◌, ◌==◌, ◌||◌, not, Bool, true, false, true≢false, List, [], ◌∷◌, ◌++◌, length, length-append, Option, Some, None, slice_get, refl, sym, ap, ◌∙◌, subst, arith, if◌then◌else◌}
use Rattle.std.proofs.lemmas.Bool.{eqb-true, eq-eqb}
use Rattle.mux_model.specs.Steps.{Held}
use Rattle.hub_log.specs.declared.terms.Terms.{Terms}
use Rattle.hub_log.specs.Moves.{Claim, Move, gives_of, value_of}
use Rattle.hub_base.specs.declared.errands.Errand.{Errand}
use Rattle.hub_log.specs.Rule.{values_of}
use Rattle.hub_log.specs.Views.{View, GoesOn, InHand, Added, is_in, same_claim, claims_from, left_by, hands_after}
use Rattle.hub_log.proofs.Logs.{goes_more, value_below, value_later}
use Rattle.hub_log.proofs.Claims.{claim_same, same_claims, turned}
use Rattle.hub_log.proofs.Using.{given_here}
use Rattle.hub_log.proofs.Walking.{in_front, in_kept, in_more}
use Rattle.hub_places.specs.Holding.{HasClaims, Holds}

-- another value at one place
abbrev pub put_at : ℕ → Option Held → (ℕ → Option Held) → ℕ → Option Held
put_at at o f i = if i == at then o else f i

-- fewer values, or the same
abbrev pub fewer : {v : View} {f g : ℕ → Option Held} → (H : Holds v f) → ((i : ℕ) (h : Held) → g i ≡ Some h → f i ≡ Some h) → Holds v g
fewer H from = record {
  claim = H.claim;
  there = λ i h e. H.there i h (from i h e);
  apart = λ i j h k x y same. H.apart i j h k (from i h x) (from j k y) same;
}

-- a pass with the same claims in hand that has seen more
pub seen_more : {v w : View} {f : ℕ → Option Held} → GoesOn v.seen w.seen → w.hands ≡ v.hands → Holds v f → Holds w f
seen_more {v = v} {w = w} on hands H = record {
  claim = H.claim;
  there = λ i h e. (subst (λ hs. is_in (H.claim i) hs ≡ true) (sym hands) (H.there i h e).0, value_later v.seen w.seen (H.claim i) h on (H.there i h e).1);
  apart = H.apart;
}

pub carried_more : {v w : View} {xs : List Errand} → GoesOn v.seen w.seen → w.hands ≡ v.hands → HasClaims v xs → HasClaims w xs
carried_more on hands c = record { holds = seen_more on hands c.holds; goes = c.goes }

-- what is cut off has the same in hand
pub hold_values : {w : View} {f : ℕ → Option Held} → Holds w f → Holds (values_of w) f
hold_values H = record { claim = H.claim; there = H.there; apart = H.apart }

pub carry_values : {w : View} {xs : List Errand} → HasClaims w xs → HasClaims (values_of w) xs
carry_values c = record { holds = hold_values c.holds; goes = c.goes }

in_back : (c : Claim) (xs ys : List Claim) → is_in c ys ≡ true → is_in c (xs ++ ys) ≡ true
in_back c [] ys h = h
in_back c (x ∷ xs) ys h = in_more (same_claim x c) (is_in c (xs ++ ys)) (in_back c xs ys h)

first_given : (n : ℕ) (gs : List Held) (h : Held) → slice_get gs 0 ≡ Some h → is_in (record { place = n; which = 0 }) (claims_from n 0 gs) ≡ true
first_given n [] h e = absurd (let no : None ≡ Some h = e in cc)
first_given n (g ∷ gs) h e = ap (λ b. b || is_in (record { place = n; which = 0 }) (claims_from n 1 gs)) (claim_same (record { place = n; which = 0 }))

longer : (xs ys : List Move) → GoesOn xs ys → length xs ≤ length ys
longer xs ys g = omega (arith, ap length g.1, length-append g.0 xs)

-- what the move gave stands at this place; every other value is where it was, under its claim
pub moved : {t : Terms} {m : Move} {v w : View} {f : ℕ → Option Held} → (a : Added t m v w) → (H : Holds v f) → (at : ℕ) (o : Option Held)
    → ((i : ℕ) (h : Held) → f i ≡ Some h → (i ≡ at → ⊥) → is_in (H.claim i) (left_by m.uses v.hands) ≡ true)
    → ((h : Held) → o ≡ Some h → slice_get (gives_of m.deed) 0 ≡ Some h)
    → (N : Holds w (put_at at o f)) × ((i : ℕ) → (i ≡ at → ⊥) → N.claim i ≡ H.claim i)
moved {t = t} {m = m} {v = v} {w = w} {f = f} a H at o left gave = (
  record {
    claim = λ i. if i == at then new else H.claim i;
    there = λ i h e. there_by i (i == at) refl h e;
    apart = λ i j h k x y same. apart_by i j (i == at) (j == at) refl refl h k x y same;
  },
  λ i never. kept_by i (i == at) refl never,
)
  where
    new : Claim
    new = record { place = length a.before; which = 0 }

    on : GoesOn v.seen w.seen
    on = subst (GoesOn v.seen) (sym a.seen) (goes_more v.seen a.before m a.later)

    in_hands : (c : Claim) → is_in c (hands_after m (length a.before) v.hands) ≡ true → InHand w c
    in_hands c i = subst (λ hs. is_in c hs ≡ true) (sym a.hands) i

    not_eq : (i : ℕ) → i ≡ at → (i == at) ≡ false → ⊥
    not_eq i same is = true≢false (sym (eq-eqb i at same) ∙ is)

    there_by : (i : ℕ) (b : Bool) → (i == at) ≡ b → (h : Held) → (if b then o else f i) ≡ Some h
        → InHand w (if b then new else H.claim i) × (value_of (if b then new else H.claim i) w.seen ≡ Some h)
    there_by i true is h e = (
      in_hands new (in_back new (left_by m.uses v.hands) (claims_from (length a.before) 0 (gives_of m.deed)) (first_given (length a.before) (gives_of m.deed) h (gave h e))),
      ap (value_of new) a.seen ∙ given_here m a.before 0 h (gave h e),
    )
    there_by i false is h e = (
      in_hands (H.claim i) (in_front (H.claim i) (left_by m.uses v.hands) _ (left i h e (λ same. not_eq i same is))),
      value_later v.seen w.seen (H.claim i) h on (H.there i h e).1,
    )

    not_new : (i : ℕ) (h : Held) → f i ≡ Some h → H.claim i ≡ new → ⊥
    not_new i h e same =
        let below = value_below v.seen (H.claim i) h (H.there i h e).1 in
        let at_end : (H.claim i).place ≡ length a.before = ap (λ (c : Claim). c.place) same in
        let more = longer v.seen a.before a.later in
        omega (arith, below, at_end, more)

    apart_by : (i j : ℕ) (b c : Bool) → (i == at) ≡ b → (j == at) ≡ c → (h k : Held) → (if b then o else f i) ≡ Some h → (if c then o else f j) ≡ Some k
        → (if b then new else H.claim i) ≡ (if c then new else H.claim j) → i ≡ j
    apart_by i j true true eb ec h k x y same = eqb-true i at eb ∙ sym (eqb-true j at ec)
    apart_by i j true false eb ec h k x y same = absurd (not_new j k y (sym same))
    apart_by i j false true eb ec h k x y same = absurd (not_new i h x same)
    apart_by i j false false eb ec h k x y same = H.apart i j h k x y same

    kept_by : (i : ℕ) (b : Bool) → (i == at) ≡ b → (i ≡ at → ⊥) → (if b then new else H.claim i) ≡ H.claim i
    kept_by i true is never = absurd (never (eqb-true i at is))
    kept_by i false is never = refl

-- another claim isn't used up with this one
pub not_used : {v : View} {f : ℕ → Option Held} → (H : Holds v f) → (at i : ℕ) (k h : Held) → f at ≡ Some k → f i ≡ Some h → (i ≡ at → ⊥) → (hs : List Claim) → is_in (H.claim i) hs ≡ true
    → is_in (H.claim i) (left_by (Some (H.claim at)) hs) ≡ true
not_used H at i k h ek eh never hs here =
    in_kept (λ x. not (same_claim x (H.claim at))) (H.claim i) hs
    (turned (same_claim (H.claim i) (H.claim at)) (λ same. never (H.apart i at h k eh ek (same_claims (H.claim i) (H.claim at) same)))) here

-- the move used the value that stood there
pub used : {t : Terms} {m : Move} {v w : View} {f : ℕ → Option Held} → (a : Added t m v w) → (H : Holds v f) → (at : ℕ) (k : Held) (o : Option Held) → f at ≡ Some k → m.uses ≡ Some (H.claim at)
    → ((h : Held) → o ≡ Some h → slice_get (gives_of m.deed) 0 ≡ Some h)
    → (N : Holds w (put_at at o f)) × ((i : ℕ) → (i ≡ at → ⊥) → N.claim i ≡ H.claim i)
used {v = v} a H at k o was uses gave =
    moved a H at o (λ i h e never. subst (λ u. is_in (H.claim i) (left_by u v.hands) ≡ true) (sym uses) (not_used H at i k h was e never v.hands (H.there i h e).0)) gave

-- it used none
pub gave : {t : Terms} {m : Move} {v w : View} {f : ℕ → Option Held} → (a : Added t m v w) → (H : Holds v f) → (at : ℕ) (o : Option Held) → m.uses ≡ None
    → ((h : Held) → o ≡ Some h → slice_get (gives_of m.deed) 0 ≡ Some h)
    → (N : Holds w (put_at at o f)) × ((i : ℕ) → (i ≡ at → ⊥) → N.claim i ≡ H.claim i)
gave {v = v} a H at o uses given =
    moved a H at o (λ i h e never. subst (λ u. is_in (H.claim i) (left_by u v.hands) ≡ true) (sym uses) (H.there i h e).0) given
