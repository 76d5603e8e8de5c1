-- A move more keeps the rule, and so do several.
use Rattle.std.proofs.Common.{◌≡◌, ◌≢◌, ◌⊎◌, inl, inr, ⊎_elim, ℕ, zero, suc, ◌<◌, ◌≤◌, Bool, true, false, List, [], ◌∷◌, length, set, Option, Some, None, refl, sym, ap, ◌∙◌, subst, arith}
use mathlib.Core.Option.{some, some-ne-none}
use lib.ListN.{get_elem?}
use Rattle.atomic_table.proofs.Lists.{set_again, set_here}
use Rattle.mux_history.specs.declared.session.SessionId.{SessionId}
use Rattle.mux_model.proofs.Happens.{same_sessions}
use Rattle.mux_model.specs.Steps.{Call}
use Rattle.hub_log.specs.declared.terms.Terms.{Terms}
use Rattle.hub_log.specs.Moves.{Claim, Deed, Opened, Did, Quiet, TookOut, Move, EachMove, IsUnused, is_by, connection_of}
use Rattle.hub_log.specs.Bag.{IsGiven, IsFirst, IsHanded, IsOwn, IsBag}
use Rattle.hub_log.specs.Views.{View, Owns, InHand, is_in, hands_after, Fits, Kept, Adds, Added, AddsAll, AddedAll}
use Rattle.hub_log.proofs.Logs.{goes_self, goes_more, goes_empty, value_below, given_later, of_other}
use Rattle.hub_log.proofs.Claims.{in_hand, apart_after}
use Rattle.hub_log.proofs.Changes.{change, Others, Alone}

-- a move that uses a value comes behind the one that gave it
used_handed : (log : List Move) (id : SessionId) (call : Call) (c : Claim) (uses : Option Claim) → uses ≡ Some c → IsHanded id call uses log → c.place < length log
used_handed log id call c None e h = absurd cc
used_handed log id call c (Some d) e h = let same : d ≡ c = cc e in subst (λ (x : Claim). x.place < length log) same (value_below log d h.0 h.1)

used_before : (log : List Move) (id : SessionId) (deed : Deed) (uses : Option Claim) (c : Claim) → uses ≡ Some c → IsGiven id deed uses log → c.place < length log
used_before log id (Opened mode) uses c e h = absurd (let none : None ≡ Some c = sym h ∙ e in cc)
used_before log id (Did call entry gives) uses c e h = used_handed log id call c uses e h
used_before log id (Quiet call) uses c e h = used_handed log id call c uses e h
used_before log id (TookOut frames) uses c e h = absurd (let none : None ≡ Some c = sym h ∙ e in cc)

-- no value is used before it was given
pub unused_yet : (log : List Move) → EachMove (λ m old. IsGiven m.session m.deed m.uses old) log → (c : Claim) → length log ≤ c.place → IsUnused c log
unused_yet [] given c h = tt
unused_yet (m ∷ old) given c h =
    ((λ e. let lt = used_before old m.session m.deed m.uses c e given.0 in omega arith), unused_yet old given.1 c (omega arith))

pub fits_longer : (t : Terms) (log : List Move) (m : Move) (u : View) → Fits t log u → ((id : SessionId) → Owns t u id → is_by id m ≡ false) → ((c : Claim) → InHand u c → m.uses ≢ Some c)
    → Fits t (m ∷ log) u
fits_longer t log m u fits own hands = record {
  seen = goes_more u.seen log m fits.seen;
  told = goes_more u.told log m fits.told;
  own = λ id o. fits.own id o ∙ sym (of_other id m log (own id o));
  hand = λ c h. ((let lt = (fits.hand c h).0 in omega arith), (hands c h, (fits.hand c h).1));
  apart = fits.apart;
}

not_true : (b : Bool) → (b ≡ true → ⊥) → b ≡ false
not_true true h = absurd (h refl)
not_true false h = refl

-- the pass after it added a move
abbrev pub adder : Move → List Move → View → View
adder m log v = record { seen = m ∷ log; told = []; low = v.low; high = v.high; hands = hands_after m (length log) v.hands }

first_of : (c : Option Claim) (log : List Move) → ((d : Claim) → c ≡ Some d → IsUnused d log) → IsFirst c log
first_of None log h = tt
first_of (Some d) log h = h d refl

pub adds : (t : Terms) (views : List View) (log : List Move) (id : ℕ) (v : View) (m : Move) → Kept t views log → get_elem? views id ≡ some v → Adds t v m
    → Kept t (set views id (adder m log v)) (m ∷ log) × Added t m v (adder m log v)
adds t views log id v m kept here asks = (
  change t views log log' id v w kept here bag mine others (λ k o. o) alone,
  record {
    before = log;
    seen = refl;
    later = fits.seen;
    told = fits.told;
    own = λ k o. sym (fits.own k o);
    legal = bag;
    low = refl;
    high = refl;
    hands = refl;
    apart = mine.apart;
  },
)
  where
    log' : List Move
    log' = m ∷ log

    w : View
    w = adder m log v

    fits : Fits t log v
    fits = kept.fits id v here

    given : IsGiven m.session m.deed m.uses log
    given = ⊎_elim (λ g. given_later v.seen log m.session m.deed m.uses fits.seen g) (λ g. given_later v.told log m.session m.deed m.uses fits.told g) asks.given

    bag : IsBag t log'
    bag = record {
      given = (given, kept.legal.given);
      once = (first_of m.uses log (λ c e. (fits.hand c (asks.used c e)).1), kept.legal.once);
      own = (subst (λ l. IsOwn t m.session m.deed (connection_of t m.session l)) (fits.own m.session asks.by) asks.own, kept.legal.own);
    }

    held : (c : Claim) → InHand w c → ((is_in c v.hands ≡ true) × (m.uses ≢ Some c)) ⊎ (c.place ≡ length log)
    held c h = in_hand m (length log) v.hands c h

    mine : Fits t log' w
    mine = record {
      seen = goes_self log';
      told = goes_empty log';
      own = λ k o. refl;
      hand = λ c h. ⊎_elim
          (λ (x : (is_in c v.hands ≡ true) × (m.uses ≢ Some c)). ((let lt = (fits.hand c x.0).0 in omega arith), (x.1, (fits.hand c x.0).1)))
          (λ (x : c.place ≡ length log). (omega arith, ((λ e. let lt = used_before log m.session m.deed m.uses c e given in omega arith), unused_yet log kept.legal.given c (omega arith))))
          (held c h);
      apart = apart_after m (length log) v.hands fits.apart (λ c h. (fits.hand c h).0);
    }

    others : Others t views id log'
    others j u n e = fits_longer t log m u (kept.fits j u e)
        (λ k o. not_true (is_by k m) (λ yes. n (kept.slots j id u v e here k o (subst (Owns t v) (same_sessions m.session k yes) asks.by))))
        (λ c h used. n (kept.hands j id u v e here c h (asks.used c used)))

    alone : (c : Claim) → InHand w c → InHand v c ⊎ Alone views id c
    alone c h = ⊎_elim
        (λ (x : (is_in c v.hands ≡ true) × (m.uses ≢ Some c)). inl x.0)
        (λ (x : c.place ≡ length log). inr (λ j u n e theirs. let lt = ((kept.fits j u e).hand c theirs).0 in omega arith))
        (held c h)

-- several moves in one step
there : {A : Type 0} (xs : List A) (j : ℕ) (b : A) → get_elem? xs j ≡ some b → j < length xs
there [] j b e = absurd (some-ne-none b (sym e))
there (x ∷ xs) zero b e = omega arith
there (x ∷ xs) (suc j) b e = let r = there xs j b e in omega arith

set_twice : {A : Type 0} (xs : List A) (i : ℕ) (a b : A) → set (set xs i a) i b ≡ set xs i b
set_twice [] i a b = refl
set_twice (x ∷ xs) zero a b = refl
set_twice (x ∷ xs) (suc i) a b = ap (λ w. x ∷ w) (set_twice xs i a b)

pub adds_all : (t : Terms) (ms : List Move) (views : List View) (log : List Move) (id : ℕ) (v : View) → Kept t views log → get_elem? views id ≡ some v → AddsAll t v ms
    → (w : View) × (later : List Move) × Kept t (set views id w) later × AddedAll t ms v w
adds_all t [] views log id v kept here asks = (v, log, subst (λ l. Kept t l log) (sym (set_again views id v here)) kept, refl)
adds_all t (m ∷ ms) views log id v kept here asks =
    let u = adder m log v in
    let first = adds t views log id v m kept here asks.0 in
    let rest = adds_all t ms (set views id u) (m ∷ log) id u first.0 (set_here views id u (there views id v here)) (asks.1 u first.1) in
    (rest.0, rest.1, subst (λ l. Kept t l rest.1) (set_twice views id u rest.0) rest.2, (u, first.1, rest.3))
