-- The moves of what a session did may be added, and then the session is beside its pass again.
use Rattle.std.proofs.Common.{◌≡◌, ◌⊎◌, inl, inr, None, List, [], ◌∷◌, ◌++◌, Option, Some, refl, sym, ap, ◌∙◌, subst}
use Rattle.mux_history.specs.declared.session.SessionId.{SessionId}
use Rattle.mux_history.specs.declared.session.SessionId.TheVariants.{Client, Server}
use Rattle.server_session.specs.Past as downs
use Rattle.server_session.specs.Belonging as down_belonging
use Rattle.client_session.specs.Past as ups
use Rattle.client_session.specs.Belonging as up_belonging
use Rattle.kept_session.specs.Reached as reached_up
use Rattle.kept_session.specs.Reached.{Kept, IsReached}
use Rattle.kept_session.specs.ReachedDown as reached_down
use Rattle.kept_session.specs.ReachedDown.{KeptDown}
use Rattle.mux_model.specs.Steps.{Held}
use Rattle.hub_log.specs.declared.terms.Terms.{Terms}
use Rattle.hub_log.specs.Moves.{Claim, Deed, gives_of, after}
use Rattle.hub_log.specs.Bag.{IsGiven, IsOwn}
use Rattle.hub_log.specs.Views.{View, AddsAll, AddedAll}
use Rattle.hub_log.specs.Turns.{Turn, Knows, IsHeld, left_after, moves_by}
use Rattle.hub_log.proofs.Walking.{given_more, held_more, leads_more, turns_are_added}
use Rattle.hub_places.specs.MovesDown.{connection_down, LeadsDown}
use Rattle.hub_places.specs.MovesUp.{connection_up, LeadsUp}
use Rattle.hub_places.specs.Tied.{TiedDown, TiedUp, MadeDown, MadeUp, moves_down, moves_up}
use Rattle.hub_places.proofs.Turning.{deeds_are_turns_down, deeds_are_turns_up}

-- what a deed uses is known to the pass
abbrev pub IsKnown : SessionId → Deed → Option Claim → View → Type 0
IsKnown id deed uses v = IsGiven id deed uses v.seen ⊎ IsGiven id deed uses v.told

-- nothing was done yet
abbrev pub begun_down : {t : Terms} {v : View} {k : KeptDown} → TiedDown t k v → MadeDown t v k
begun_down s = record { past = s.past; next = s.past; turns = []; leads = refl; same = refl; led = s.led; belongs = s.belongs; limits = s.limits; knows = s.knows; given = tt; held = tt }

abbrev pub begun_up : {t : Terms} {v : View} {k : Kept} → TiedUp t k v → MadeUp t v k
begun_up s = record { past = s.past; next = s.past; turns = []; leads = refl; same = refl; reached = s.reached; belongs = s.belongs; limits = s.limits; knows = s.knows; given = tt; held = tt }

-- one more step, which is such a deed
pub made_at_down : {t : Terms} {v : View} {k l : KeptDown} (s : MadeDown t v k) (q : downs.Past) → reached_down.IsLedDown q → down_belonging.Belongs l.state q → (deed : Deed) → LeadsDown s.next deed q → (uses : Option Claim)
    → IsHeld uses (left_after s.turns v.hands) → IsKnown (Client s.past.session.number) deed uses v
    → (n : MadeDown t v l) × (n.turns ≡ s.turns ++ record { deed = deed; uses = uses } ∷ []) × (n.past ≡ s.past)
made_at_down {t = t} {v = v} s q led belongs deed leads uses held known =
    let id = Client s.past.session.number in
    let turn = deeds_are_turns_down t s.next q deed (ap (λ b. b.limits) s.same ∙ s.limits) leads in
    let here = ap (λ b. Client b.number) s.same in
    let x : Turn = record { deed = deed; uses = uses } in (
      record {
        past = s.past;
        next = q;
        turns = s.turns ++ x ∷ [];
        leads = leads_more t id s.turns x (connection_down s.past) (connection_down s.next) (connection_down q) s.leads
            (subst (λ i. IsOwn t i deed (Some (connection_down s.next))) here turn.0)
            (subst (λ i. after t i deed (Some (connection_down s.next)) ≡ Some (connection_down q)) here turn.1);
        same = turn.2 ∙ s.same;
        led = led;
        belongs = belongs;
        limits = s.limits;
        knows = s.knows;
        given = given_more id v s.turns x s.given known;
        held = held_more s.turns x v.hands s.held held;
      },
      refl,
      refl,
    )

pub made_at_up : {t : Terms} {v : View} {k l : Kept} (s : MadeUp t v k) (q : ups.Past) → IsReached l.mode q → up_belonging.Belongs l.state q → (deed : Deed) → LeadsUp s.next deed q → (uses : Option Claim)
    → IsHeld uses (left_after s.turns v.hands) → IsKnown (Server s.past.session.number) deed uses v
    → (n : MadeUp t v l) × (n.turns ≡ s.turns ++ record { deed = deed; uses = uses } ∷ []) × (n.past ≡ s.past)
made_at_up {t = t} {v = v} s q led belongs deed leads uses held known =
    let id = Server s.past.session.number in
    let turn = deeds_are_turns_up t t.boot s.next q deed (ap (λ b. b.limits) s.same ∙ s.limits) leads in
    let here = ap (λ b. Server b.number) s.same in
    let x : Turn = record { deed = deed; uses = uses } in (
      record {
        past = s.past;
        next = q;
        turns = s.turns ++ x ∷ [];
        leads = leads_more t id s.turns x (connection_up t.boot s.past) (connection_up t.boot s.next) (connection_up t.boot q) s.leads
            (subst (λ i. IsOwn t i deed (Some (connection_up t.boot s.next))) here turn.0)
            (subst (λ i. after t i deed (Some (connection_up t.boot s.next)) ≡ Some (connection_up t.boot q)) here turn.1);
        same = turn.2 ∙ s.same;
        reached = led;
        belongs = belongs;
        limits = s.limits;
        knows = s.knows;
        given = given_more id v s.turns x s.given known;
        held = held_more s.turns x v.hands s.held held;
      },
      refl,
      refl,
    )

-- whatever past it leads to
pub made_down : {t : Terms} {v : View} {k l : KeptDown} (R : downs.Past → downs.Past → Type 0) (gives : List Held) → reached_down.LeadsDown k l R → (s : MadeDown t v k) → (uses : Option Claim) → IsHeld uses (left_after s.turns v.hands)
    → ((p q : downs.Past) → R p q → (deed : Deed) × LeadsDown p deed q × IsKnown (Client s.past.session.number) deed uses v × (gives_of deed ≡ gives))
    → (deed : Deed) × (n : MadeDown t v l) × (n.turns ≡ s.turns ++ record { deed = deed; uses = uses } ∷ []) × (n.past ≡ s.past) × (gives_of deed ≡ gives)
made_down {l = l} R gives step s uses held deed_of =
    let g = step s.next s.led s.belongs in
    let d = deed_of s.next g.0 g.1 in
    let m = made_at_down {l = l} s g.0 g.2 g.3 d.0 d.1 uses held d.2 in
    (d.0, m.0, m.1, m.2, d.3)

pub made_up : {t : Terms} {v : View} {k l : Kept} (R : ups.Past → ups.Past → Type 0) (gives : List Held) → reached_up.Leads k l R → (s : MadeUp t v k) → (uses : Option Claim) → IsHeld uses (left_after s.turns v.hands)
    → ((p q : ups.Past) → R p q → (deed : Deed) × LeadsUp p deed q × IsKnown (Server s.past.session.number) deed uses v × (gives_of deed ≡ gives))
    → (deed : Deed) × (n : MadeUp t v l) × (n.turns ≡ s.turns ++ record { deed = deed; uses = uses } ∷ []) × (n.past ≡ s.past) × (gives_of deed ≡ gives)
made_up {l = l} R gives step s uses held deed_of =
    let g = step s.next s.reached s.belongs in
    let d = deed_of s.next g.0 g.1 in
    let m = made_at_up {l = l} s g.0 g.2 g.3 d.0 d.1 uses held d.2 in
    (d.0, m.0, m.1, m.2, d.3)

-- a step that is such a deed, or leaves the past as it was, and uses no value
abbrev pub IsPlainDown : (downs.Past → downs.Past → Type 0) → Type 0
IsPlainDown R = (p q : downs.Past) → R p q → (q ≡ p) ⊎ ((deed : Deed) × LeadsDown p deed q × ((id : SessionId) (v : View) → IsGiven id deed None v.seen))

abbrev pub IsPlainUp : (ups.Past → ups.Past → Type 0) → Type 0
IsPlainUp R = (p q : ups.Past) → R p q → (q ≡ p) ⊎ ((deed : Deed) × LeadsUp p deed q × ((id : SessionId) (v : View) → IsGiven id deed None v.seen))

pub plain_down : {t : Terms} {v : View} {k l : KeptDown} (R : downs.Past → downs.Past → Type 0) → IsPlainDown R → reached_down.LeadsDown k l R → (s : MadeDown t v k) → (n : MadeDown t v l) × (n.past ≡ s.past)
plain_down {t = t} {v = v} {k = k} {l = l} R plain step s = let g = step s.next s.led s.belongs in by_deed g.0 g.2 g.3 (plain s.next g.0 g.1)
  where
    by_deed : (q : downs.Past) → reached_down.IsLedDown q → down_belonging.Belongs l.state q → (q ≡ s.next) ⊎ ((deed : Deed) × LeadsDown s.next deed q × ((id : SessionId) (v : View) → IsGiven id deed None v.seen))
        → (n : MadeDown t v l) × (n.past ≡ s.past)
    by_deed q led belongs (inl same) = (
      record {
        past = s.past;
        next = s.next;
        turns = s.turns;
        leads = s.leads;
        same = s.same;
        led = s.led;
        belongs = subst (down_belonging.Belongs l.state) same belongs;
        limits = s.limits;
        knows = s.knows;
        given = s.given;
        held = s.held;
      },
      refl,
    )
    by_deed q led belongs (inr d) = let m = made_at_down {l = l} s q led belongs d.0 d.1 None tt (inl (d.2 (Client s.past.session.number) v)) in (m.0, m.2)

pub plain_up : {t : Terms} {v : View} {k l : Kept} (R : ups.Past → ups.Past → Type 0) → IsPlainUp R → reached_up.Leads k l R → (s : MadeUp t v k) → (n : MadeUp t v l) × (n.past ≡ s.past)
plain_up {t = t} {v = v} {k = k} {l = l} R plain step s = let g = step s.next s.reached s.belongs in by_deed g.0 g.2 g.3 (plain s.next g.0 g.1)
  where
    by_deed : (q : ups.Past) → IsReached l.mode q → up_belonging.Belongs l.state q → (q ≡ s.next) ⊎ ((deed : Deed) × LeadsUp s.next deed q × ((id : SessionId) (v : View) → IsGiven id deed None v.seen))
        → (n : MadeUp t v l) × (n.past ≡ s.past)
    by_deed q led belongs (inl same) = (
      record {
        past = s.past;
        next = s.next;
        turns = s.turns;
        leads = s.leads;
        same = s.same;
        reached = subst (IsReached l.mode) same led;
        belongs = subst (up_belonging.Belongs l.state) same belongs;
        limits = s.limits;
        knows = s.knows;
        given = s.given;
        held = s.held;
      },
      refl,
    )
    by_deed q led belongs (inr d) = let m = made_at_up {l = l} s q led belongs d.0 d.1 None tt (inl (d.2 (Server s.past.session.number) v)) in (m.0, m.2)

-- a step that leaves the past as it was
pub stayed_down : {t : Terms} {v : View} {k l : KeptDown} (R : downs.Past → downs.Past → Type 0) → reached_down.LeadsDown k l R → (s : MadeDown t v k) → ((p q : downs.Past) → R p q → q ≡ p)
    → (n : MadeDown t v l) × (n.turns ≡ s.turns) × (n.past ≡ s.past)
stayed_down {l = l} R step s same =
    let g = step s.next s.led s.belongs in (
      record {
        past = s.past;
        next = s.next;
        turns = s.turns;
        leads = s.leads;
        same = s.same;
        led = s.led;
        belongs = subst (down_belonging.Belongs l.state) (same s.next g.0 g.1) g.3;
        limits = s.limits;
        knows = s.knows;
        given = s.given;
        held = s.held;
      },
      refl,
      refl,
    )

pub stayed_up : {t : Terms} {v : View} {k l : Kept} (R : ups.Past → ups.Past → Type 0) → reached_up.Leads k l R → (s : MadeUp t v k) → ((p q : ups.Past) → R p q → q ≡ p)
    → (n : MadeUp t v l) × (n.turns ≡ s.turns) × (n.past ≡ s.past)
stayed_up {l = l} R step s same =
    let g = step s.next s.reached s.belongs in
    let is = same s.next g.0 g.1 in (
      record {
        past = s.past;
        next = s.next;
        turns = s.turns;
        leads = s.leads;
        same = s.same;
        reached = subst (IsReached l.mode) is g.2;
        belongs = subst (up_belonging.Belongs l.state) is g.3;
        limits = s.limits;
        knows = s.knows;
        given = s.given;
        held = s.held;
      },
      refl,
      refl,
    )

-- what was done may be added
pub adds_down : {t : Terms} {v : View} {k : KeptDown} (s : MadeDown t v k) → AddsAll t v (moves_down s)
adds_down {t = t} {v = v} s = (turns_are_added t (Client s.past.session.number) (connection_down s.past) (connection_down s.next) s.turns v s.knows s.leads).0 s.given s.held

pub adds_up : {t : Terms} {v : View} {k : Kept} (s : MadeUp t v k) → AddsAll t v (moves_up s)
adds_up {t = t} {v = v} s = (turns_are_added t (Server s.past.session.number) (connection_up t.boot s.past) (connection_up t.boot s.next) s.turns v s.knows s.leads).0 s.given s.held

-- then the session is beside the pass again
abbrev pub tied_down : {t : Terms} {v : View} {k : KeptDown} (w : View) (s : MadeDown t v k) → AddedAll t (moves_down s) v w → TiedDown t k w
tied_down {t = t} {v = v} w s added =
    let went = (turns_are_added t (Client s.past.session.number) (connection_down s.past) (connection_down s.next) s.turns v s.knows s.leads).1 w added in
    record {
      past = s.next;
      led = s.led;
      belongs = s.belongs;
      limits = ap (λ b. b.limits) s.same ∙ s.limits;
      knows = subst (λ b. Knows t w (Client b.number) (connection_down s.next)) (sym s.same) went.knows;
    }

abbrev pub tied_up : {t : Terms} {v : View} {k : Kept} (w : View) (s : MadeUp t v k) → AddedAll t (moves_up s) v w → TiedUp t k w
tied_up {t = t} {v = v} w s added =
    let went = (turns_are_added t (Server s.past.session.number) (connection_up t.boot s.past) (connection_up t.boot s.next) s.turns v s.knows s.leads).1 w added in
    record {
      past = s.next;
      reached = s.reached;
      belongs = s.belongs;
      limits = ap (λ b. b.limits) s.same ∙ s.limits;
      knows = subst (λ b. Knows t w (Server b.number) (connection_up t.boot s.next)) (sym s.same) went.knows;
    }
