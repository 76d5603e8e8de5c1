-- What a session does under one lock may be added by one load.
use Rattle.std.proofs.Common.{◌≡◌, ◌⊎◌, inl, ⊎_elim, ◌<◌, ◌≤◌, ◌||◌, not, Bool, true, false, true≢false, List, [], ◌∷◌, ◌++◌, length, Option, None, Some, refl, sym, ap, ◌∙◌, subst, if◌then◌else◌}
use Rattle.std.specs.List.{filter}
use Rattle.mux_history.specs.declared.session.SessionId.{SessionId}
use Rattle.mux_model.specs.World.{Connection}
use Rattle.hub_log.specs.declared.terms.Terms.{Terms}
use Rattle.hub_log.specs.Moves.{Claim, Move, slot_of, after, connection_of, value_of}
use Rattle.hub_log.specs.Bag.{IsGiven, IsOwn}
use Rattle.hub_log.specs.Views.{View, GoesOn, InHand, Added, AddsAll, AddedAll, is_in, same_claim, left_by, hands_after}
use Rattle.hub_log.specs.Turns.{Turn, moves_by, Leads, AreGiven, IsHeld, AreHeld, left_after, Knows, hands_by, Went, TurnsAreAdded}
use Rattle.hub_log.proofs.Logs.{goes_self, goes_trans, goes_more, given_later, value_later}
use Rattle.hub_log.proofs.Claims.{in_filter, same_claims}
use Rattle.hub_log.proofs.Sessions.{session_same}
use Rattle.hub_log.proofs.Using.{own_more, given_here}

-- claims that stay in hand
abbrev Within : List Claim → List Claim → Type 0
Within hs gs = (c : Claim) → is_in c hs ≡ true → is_in c gs ≡ true

pub in_more : (b : Bool) (c : Bool) → c ≡ true → (b || c) ≡ true
in_more true c e = refl
in_more false c e = e

pub in_kept : (p : Claim → Bool) (c : Claim) (hs : List Claim) → p c ≡ true → is_in c hs ≡ true → is_in c (filter p hs) ≡ true
in_kept p c [] e h = absurd (true≢false (sym h))
in_kept p c (x ∷ xs) e h = by_tests (p x) (same_claim x c) refl refl h (in_kept p c xs e)
  where
    by_tests : (a b : Bool) → p x ≡ a → same_claim x c ≡ b → (b || is_in c xs) ≡ true → (is_in c xs ≡ true → is_in c (filter p xs) ≡ true) → is_in c (if a then x ∷ filter p xs else filter p xs) ≡ true
    by_tests true true ea eb i further = ap (λ y. y || is_in c (filter p xs)) eb
    by_tests true false ea eb i further = in_more (same_claim x c) (is_in c (filter p xs)) (further i)
    by_tests false true ea eb i further = (let no : true ≡ false = sym e ∙ (ap p (sym (same_claims x c eb)) ∙ ea) in absurd (true≢false no))
    by_tests false false ea eb i further = further i

left_within : (o : Option Claim) (hs gs : List Claim) → Within hs gs → Within (left_by o hs) (left_by o gs)
left_within None hs gs w c i = w c i
left_within (Some d) hs gs w c i =
    let p = λ (x : Claim). not (same_claim x d) in
    let r = in_filter p c hs i in
    in_kept p c gs r.1 (w c r.0)

pub in_front : (c : Claim) (xs ys : List Claim) → is_in c xs ≡ true → is_in c (xs ++ ys) ≡ true
in_front c [] ys h = absurd (true≢false (sym h))
in_front c (x ∷ xs) ys h = by_test (same_claim x c) refl h (in_front c xs ys)
  where
    by_test : (b : Bool) → same_claim x c ≡ b → (b || is_in c xs) ≡ true → (is_in c xs ≡ true → is_in c (xs ++ ys) ≡ true) → (same_claim x c || is_in c (xs ++ ys)) ≡ true
    by_test true e i further = ap (λ y. y || is_in c (xs ++ ys)) e
    by_test false e i further = in_more (same_claim x c) (is_in c (xs ++ ys)) (further i)

held_within : (o : Option Claim) (hs gs : List Claim) → Within hs gs → IsHeld o hs → IsHeld o gs
held_within None hs gs w h = h
held_within (Some c) hs gs w h = w c h

all_within : (xs : List Turn) (hs gs : List Claim) → Within hs gs → AreHeld xs hs → AreHeld xs gs
all_within [] hs gs w h = tt
all_within (x ∷ xs) hs gs w h = (held_within x.uses hs gs w h.0, all_within xs (left_by x.uses hs) (left_by x.uses gs) (left_within x.uses hs gs w) h.1)

held_uses : (o : Option Claim) (v : View) → IsHeld o v.hands → (c : Claim) → o ≡ Some c → InHand v c
held_uses None v h c e = absurd cc
held_uses (Some d) v h c e = subst (InHand v) (let same : d ≡ c = cc e in same) h

abbrev move_of : SessionId → Turn → Move
move_of id x = record { session = id; deed = x.deed; uses = x.uses }

module _ (t : Terms) (id : SessionId) where
  -- one turn further
  knows_next : (c e : Connection) (x : Turn) (v w : View) → Knows t v id c → after t id x.deed (Some c) ≡ Some e → Added t (move_of id x) v w → Knows t w id e
  knows_next c e x v w k next a = record {
    owns = (subst (λ n. n ≤ slot_of t id) (sym a.low) k.owns.0, subst (λ n. slot_of t id < n) (sym a.high) k.owns.1);
    seen = ap (connection_of t id) (own_more t (move_of id x) v w id a k.owns (session_same id)) ∙ (ap (after t id x.deed) k.seen ∙ next);
  }

  behind : (x : Turn) (v w : View) → Added t (move_of id x) v w → GoesOn v.seen w.seen
  behind x v w a = subst (GoesOn v.seen) (sym a.seen) (goes_more v.seen a.before (move_of id x) a.later)

  told_behind : (x : Turn) (v w : View) → Added t (move_of id x) v w → GoesOn v.told w.seen
  told_behind x v w a = subst (GoesOn v.told) (sym a.seen) (goes_more v.told a.before (move_of id x) a.told)

  still_given : (x : Turn) (v w : View) → Added t (move_of id x) v w → (xs : List Turn) → AreGiven id v xs → AreGiven id w xs
  still_given x v w a [] given = tt
  still_given x v w a (y ∷ ys) given = (
    ⊎_elim (λ (g : IsGiven id y.deed y.uses v.seen). inl (given_later v.seen w.seen id y.deed y.uses (behind x v w a) g))
        (λ (g : IsGiven id y.deed y.uses v.told). inl (given_later v.told w.seen id y.deed y.uses (told_behind x v w a) g)) given.0,
    still_given x v w a ys given.1,
  )

  still_held : (x : Turn) (v w : View) → Added t (move_of id x) v w → (xs : List Turn) → AreHeld xs (left_by x.uses v.hands) → AreHeld xs w.hands
  still_held x v w a xs held =
      subst (AreHeld xs) (sym a.hands) (all_within xs (left_by x.uses v.hands) (hands_after (move_of id x) (length a.before) v.hands) (λ c i. in_front c (left_by x.uses v.hands) _ i) held)

  adds_turns : (c d : Connection) (xs : List Turn) (v : View) → Knows t v id c → Leads t id c xs d → AreGiven id v xs → AreHeld xs v.hands → AddsAll t v (moves_by id xs)
  adds_turns c d [] v k leads given held = tt
  adds_turns c d (x ∷ xs) v k leads given held = (
    record { given = given.0; used = held_uses x.uses v held.0; by = k.owns; own = subst (IsOwn t id x.deed) (sym k.seen) leads.0 },
    λ w a. adds_turns leads.1 d xs w (knows_next c leads.1 x v w k leads.2 a) leads.3 (still_given x v w a xs given.1) (still_held x v w a xs held.1),
  )

  went : (c d : Connection) (xs : List Turn) (v w : View) → Knows t v id c → Leads t id c xs d → AddedAll t (moves_by id xs) v w → Went t id xs d v w
  went c d [] v w k leads added = record {
    knows = subst (λ y. Knows t y id d) (sym added) (subst (Knows t v id) (sym leads) k);
    later = subst (λ (y : View). GoesOn v.seen y.seen) (sym added) (goes_self v.seen);
    low = ap (λ (y : View). y.low) added;
    high = ap (λ (y : View). y.high) added;
    places = [];
    hands = ap (λ (y : View). y.hands) added;
    stand = tt;
  }
  went c d (x ∷ xs) v w k leads added =
      let u = added.0 in
      let a = added.1 in
      let rest = went leads.1 d xs u w (knows_next c leads.1 x v u k leads.2 a) leads.3 added.2 in
      let n = length a.before in
      record {
        knows = rest.knows;
        later = goes_trans v.seen u.seen w.seen (behind x v u a) rest.later;
        low = rest.low ∙ a.low;
        high = rest.high ∙ a.high;
        places = n ∷ rest.places;
        hands = rest.hands ∙ ap (hands_by xs rest.places) a.hands;
        stand = (
          λ j h e. value_later u.seen w.seen (record { place = n; which = j }) h rest.later (ap (value_of (record { place = n; which = j })) a.seen ∙ given_here (move_of id x) a.before j h e),
          rest.stand,
        );
      }

-- one more turn behind the others
pub leads_more : (t : Terms) (id : SessionId) (xs : List Turn) (x : Turn) (c d e : Connection) → Leads t id c xs d → IsOwn t id x.deed (Some d) → after t id x.deed (Some d) ≡ Some e → Leads t id c (xs ++ x ∷ []) e
leads_more t id [] x c d e leads own next = subst (λ y. Leads t id y (x ∷ []) e) leads (own, e, next, refl)
leads_more t id (y ∷ ys) x c d e leads own next = (leads.0, leads.1, leads.2, leads_more t id ys x leads.1 d e leads.3 own next)

pub given_more : (id : SessionId) (v : View) (xs : List Turn) (x : Turn) → AreGiven id v xs → IsGiven id x.deed x.uses v.seen ⊎ IsGiven id x.deed x.uses v.told → AreGiven id v (xs ++ x ∷ [])
given_more id v [] x all given = (given, tt)
given_more id v (y ∷ ys) x all given = (all.0, given_more id v ys x all.1 given)

pub held_more : (xs : List Turn) (x : Turn) (hs : List Claim) → AreHeld xs hs → IsHeld x.uses (left_after xs hs) → AreHeld (xs ++ x ∷ []) hs
held_more [] x hs all held = (held, tt)
held_more (y ∷ ys) x hs all held = (all.0, held_more ys x (left_by y.uses hs) all.1 held)

pub turns_are_added : TurnsAreAdded
turns_are_added t id c d xs v k leads = (adds_turns t id c d xs v k leads, λ w added. went t id c d xs v w k leads added)
