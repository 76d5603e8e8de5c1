-- The call of an event, on the session that it goes to.
use Rattle.std.proofs.Common.{◌≡◌, ◌++◌, ◌+◌, ◌<◌, ℕ, List, Bool, Option, Some, None, Ok, Err, refl, sym, ◌∙◌, ap, subst, length, true, false, arith, append-nil}
use Rattle.std.specs.Prelude.{if◌then◌else◌, option_map, is_none}
use Rattle.std.specs.Option.{option_to_list}
use Rattle.mux_history.specs.declared.session.SessionId.{SessionId}
use Rattle.mux_history.specs.declared.session.SessionId.TheVariants.{Server}
use Rattle.mux_model.specs.Steps as steps
use Rattle.mux_model.specs.Steps.{Call, Outcome, Refused, Unrecorded, Recorded}
use Rattle.mux_model.specs.World.{World, Connection, Hand, Reached, MayChooseAt, outcome, stepped, numbered}
use Rattle.mux_model.specs.Events as model
use Rattle.mux_model.specs.Events.{connection_at, replaced, happens, ChoosesFree, IsFreeFor, IsFreeOn, OnAccepted, after_outcome, on_session, on_hand, spends, hand_at, without_hand, spent, is_missing, plain_call}
use Rattle.mux_model.proofs.Happens.{happens_reached, accepted_all, found}
use Rattle.core_world.specs.declared.calls.Gave.{Gave}
use Rattle.core_world.specs.declared.hands.Held.{Held}
use Rattle.core_world.specs.declared.events.Note.{Note}
use Rattle.core_world.specs.Hands.{held_of, shown}
use Rattle.core_world.specs.Calls.{Gives, after, told_of, gives_in, held_in, grows_by}
use Rattle.core_world.specs.Cores.{note_of}
use Rattle.core_world.specs.Events.{call_in, spent_by, left_by, told_at, hand_of, first_shown, CallTells, Tells, may_grow, grows_in, IsLookedAt}
use Rattle.core_world.proofs.Pointwise.{Changed, replaces, stays}

-- what an outcome makes of a world; `rest` is the bag without the value that was used
abbrev pub moved_conns : World → SessionId → Connection → Call → Outcome → List Connection
moved_conns w id c call (Recorded e gives) = replaced w.boot id (stepped c call e) w.connections
moved_conns w id c call _ = w.connections

abbrev pub moved_by : World → List Hand → SessionId → Connection → Call → Outcome → World
moved_by w rest id c call o =
    record w {
      connections = moved_conns w id c call o;
      hands = rest ++ numbered w.next_hand (gives_in o);
      next_hand = w.next_hand + length (gives_in o);
    }

plus_none : (n : ℕ) → n ≡ n + 0
plus_none n = omega arith

pub after_is : (w : World) (rest : List Hand) (id : SessionId) (c : Connection) (call : Call) (o : Outcome) (g : Gave) → Gives call o g
    → after_outcome w rest id c call o ≡ Ok (moved_by w rest id c call o)
after_is w rest id c call (Refused why) g h = absurd h
after_is w rest id c call (Recorded e gives) g h = refl
after_is w rest id c call Unrecorded g h = λ i. Ok (record w { hands = sym (append-nil rest) i; next_hand = plus_none w.next_hand i })

pub given_is : (call : Call) (o : Outcome) (g : Gave) → Gives call o g → gives_in o ≡ held_in g
given_is call (Refused why) g h = absurd h
given_is call (Recorded e gives) g h = h.0
given_is call Unrecorded g h = h.0

pub told_is : (call : Call) (o : Outcome) (g : Gave) → Gives call o g → g.told ≡ told_of call o
told_is call (Refused why) g h = absurd h
told_is call (Recorded e gives) g h = h.1
told_is call Unrecorded g h = h.1

pub changes : (w : World) (id : SessionId) (c : Connection) (call : Call) (o : Outcome) → connection_at w.boot id w.connections ≡ Some c
    → Changed w.boot id (after c call o) w.connections (moved_conns w id c call o)
changes w id c call (Recorded e gives) at =
    let f = found w.boot id w.connections c at in replaces w.boot id (stepped c call e) c w.connections f.present f.named at
changes w id c call Unrecorded at = stays w.boot id c w.connections at
changes w id c call (Refused why) at = stays w.boot id c w.connections at

pub still_later : (w : World) (id : SessionId) (new : Connection) (ds : List Connection) → Changed w.boot id new w.connections ds
    → ((b : ℕ) (i : SessionId) → w.boot < b → connection_at b i w.connections ≡ None) → (b : ℕ) (i : SessionId) → w.boot < b → connection_at b i ds ≡ None
still_later w id new ds changed later b i less = changed.later b i less ∙ later b i less

pub reached_by : (w after : World) (t : ℕ) (event : model.Event) → Reached w → ChoosesFree w t event → happens w t event ≡ Ok after → Reached after
reached_by w after t event r free e = subst (λ x. OnAccepted x Reached) e (happens_reached w r t event free)

-- an offer names the session that it goes to
offer_goes : (h : steps.Held) (server now : ℕ) (a : SessionId × Call) → spent h (model.Offer server now) ≡ Some a → a.0 ≡ Server server
offer_goes (steps.TicketOf n f left) server now a e = (let same : (Server server, steps.OfferCall n f left now) ≡ a = cc in ap (λ x. x.0) (sym same))
offer_goes (steps.PlacedAt n s t) server now a e = absurd (cc)
offer_goes (steps.SettledBy n f again) server now a e = absurd (cc)
offer_goes (steps.RecallOf n s t why) server now a e = absurd (cc)
offer_goes (steps.LostOf n) server now a e = absurd (cc)

there : (w : World) (h : steps.Held) (by : model.Use) (a : SessionId × Call) (c : Connection) → spent h by ≡ Some a → connection_at w.boot a.0 w.connections ≡ Some c → is_missing w by ≡ false
there w h (model.Offer server now) a c e at = ap (λ o. is_none o) (ap (λ id. connection_at w.boot id w.connections) (sym (offer_goes h server now a e)) ∙ at)
there w h model.Note a c e at = refl
there w h model.Settle a c e at = refl
there w h model.Nack a c e at = refl
there w h model.Unroute a c e at = refl
there w h model.Fail a c e at = refl
there w h (model.Recall now) a c e at = refl

module _ (w : World) (t : ℕ) where
  abbrev Goes : model.Event → SessionId × Call → Type 0
  Goes e a = happens w t e ≡ on_session w (left_by w.hands e) t a.0 a.1 (connection_at w.boot a.0 w.connections)

  spend_goes : (k : ℕ) (by : model.Use) (a : SessionId × Call) (c : Connection) (o : Option Hand) → hand_at k w.hands ≡ o → spent_by by o ≡ Some a → connection_at w.boot a.0 w.connections ≡ Some c → Goes (model.Spend k by) a
  spend_goes k by a c None is e at = absurd (cc)
  spend_goes k by a c (Some h) is e at =
      ap (λ b. if b then Err model.NoSuchSession else spends w t k by (hand_at k w.hands)) (there w h.held by a c e at) ∙ ap (λ o. spends w t k by o) is ∙ ap (λ o. on_hand w t k o) e

  -- an event does its call
  pub event_goes : (e : model.Event) (a : SessionId × Call) (c : Connection) → call_in w.hands e ≡ Some a → connection_at w.boot a.0 w.connections ≡ Some c → Goes e a
  event_goes (model.On id step) a c e at = (let same : (id, plain_call step) ≡ a = cc in subst (λ x. Goes (model.On id step) x) same refl)
  event_goes (model.Spend k by) a c e at = spend_goes k by a c (hand_at k w.hands) refl e at
  event_goes model.OpenClient a c e at = absurd (cc)
  event_goes (model.OpenServer mode) a c e at = absurd (cc)
  event_goes (model.TakeOutOf id) a c e at = absurd (cc)
  event_goes model.Restart a c e at = absurd (cc)

  pub event_does : (e : model.Event) (a : SessionId × Call) (c : Connection) → call_in w.hands e ≡ Some a → connection_at w.boot a.0 w.connections ≡ Some c
      → happens w t e ≡ after_outcome w (left_by w.hands e) a.0 c a.1 (outcome w.limits c t a.1)
  event_does e a c is at = event_goes e a c is at ∙ ap (λ o. on_session w (left_by w.hands e) t a.0 a.1 o) at

  -- where its session isn't there, it is refused
  pub event_nowhere : (e : model.Event) (a : SessionId × Call) → call_in w.hands e ≡ Some a → connection_at w.boot a.0 w.connections ≡ None → happens w t e ≡ Err model.NoSuchSession
  event_nowhere (model.On id step) a e none =
      (let same : (id, plain_call step) ≡ a = cc in ap (λ o. on_session w w.hands t id (plain_call step) o) (ap (λ (x : SessionId × Call). connection_at w.boot x.0 w.connections) same ∙ none))
  event_nowhere (model.Spend k by) a e none = by_hand (hand_at k w.hands) refl e
    where
      by_test : (b : Bool) → spends w t k by (hand_at k w.hands) ≡ Err model.NoSuchSession → (if b then Err model.NoSuchSession else spends w t k by (hand_at k w.hands)) ≡ Err model.NoSuchSession
      by_test true h = refl
      by_test false h = h

      by_hand : (o : Option Hand) → hand_at k w.hands ≡ o → spent_by by o ≡ Some a → happens w t (model.Spend k by) ≡ Err model.NoSuchSession
      by_hand None is e = absurd (cc)
      by_hand (Some h) is e =
          by_test (is_missing w by) (ap (λ o. spends w t k by o) is ∙ ap (λ o. on_hand w t k o) e ∙ ap (λ o. on_session w (without_hand k w.hands) t a.0 a.1 o) none)
  event_nowhere model.OpenClient a e none = absurd (cc)
  event_nowhere (model.OpenServer mode) a e none = absurd (cc)
  event_nowhere (model.TakeOutOf id) a e none = absurd (cc)
  event_nowhere model.Restart a e none = absurd (cc)

  -- the tag that a call may choose is free for its event
  offer_free : (h : steps.Held) (server now : ℕ) (a : SessionId × Call) (c : Connection) → spent h (model.Offer server now) ≡ Some a → connection_at w.boot a.0 w.connections ≡ Some c
      → MayChooseAt w.limits c a.0 t a.1 → IsFreeOn t server (connection_at w.boot (Server server) w.connections)
  offer_free (steps.TicketOf n f left) server now a c e at may =
      let same : (Server server, steps.OfferCall n f left now) ≡ a = cc in
      let here : connection_at w.boot (Server server) w.connections ≡ Some c = ap (λ (x : SessionId × Call). connection_at w.boot x.0 w.connections) same ∙ at in
      let chosen : IsFreeOn t server (Some c) = subst (λ (x : SessionId × Call). MayChooseAt w.limits c x.0 t x.1) (sym same) may in
      subst (λ o. IsFreeOn t server o) (sym here) chosen
  offer_free (steps.PlacedAt n s u) server now a c e at may = absurd (cc)
  offer_free (steps.SettledBy n f again) server now a c e at may = absurd (cc)
  offer_free (steps.RecallOf n s u why) server now a c e at may = absurd (cc)
  offer_free (steps.LostOf n) server now a c e at may = absurd (cc)

  spend_free : (k : ℕ) (by : model.Use) (a : SessionId × Call) (c : Connection) (o : Option Hand) → spent_by by o ≡ Some a → connection_at w.boot a.0 w.connections ≡ Some c → MayChooseAt w.limits c a.0 t a.1
      → IsFreeFor w t (model.Spend k by)
  spend_free k by a c None e at may = absurd (cc)
  spend_free k (model.Offer server now) a c (Some h) e at may = offer_free h.held server now a c e at may
  spend_free k _ a c (Some h) e at may = tt

  event_free : (e : model.Event) (a : SessionId × Call) (c : Connection) → call_in w.hands e ≡ Some a → connection_at w.boot a.0 w.connections ≡ Some c → MayChooseAt w.limits c a.0 t a.1 → IsFreeFor w t e
  event_free (model.On id step) a c e at may = tt
  event_free (model.Spend k by) a c e at may = spend_free k by a c (hand_at k w.hands) e at may
  event_free model.OpenClient a c e at may = tt
  event_free (model.OpenServer mode) a c e at may = tt
  event_free (model.TakeOutOf id) a c e at may = tt
  event_free model.Restart a c e at may = tt

  pub event_chooses : (e : model.Event) (a : SessionId × Call) (c : Connection) → call_in w.hands e ≡ Some a → connection_at w.boot a.0 w.connections ≡ Some c → MayChooseAt w.limits c a.0 t a.1 → ChoosesFree w t e
  event_chooses e a c is at may = accepted_all (happens w t e) (event_free e a c is at may)

  -- what it tells
  pub event_tells : (e : model.Event) (a : SessionId × Call) (note : Note) → call_in w.hands e ≡ Some a → CallTells w t note (Some a) → Tells w t e note
  event_tells (model.On id step) a note e tells = subst (λ o. CallTells w t note o) (sym e) tells
  event_tells (model.Spend k by) a note e tells = subst (λ o. CallTells w t note o) (sym e) tells
  event_tells model.OpenClient a note e tells = absurd (cc)
  event_tells (model.OpenServer mode) a note e tells = absurd (cc)
  event_tells (model.TakeOutOf id) a note e tells = absurd (cc)
  event_tells model.Restart a note e tells = absurd (cc)

  first_is : (n : ℕ) (o : Option Held) → option_map (λ h. shown (record { number = n; held = held_of h })) o ≡ first_shown n (option_to_list (option_map held_of o))
  first_is n None = refl
  first_is n (Some h) = refl

  pub call_tells : (id : SessionId) (call : Call) (c : Connection) (o : Outcome) (g : Gave) → connection_at w.boot id w.connections ≡ Some c → outcome w.limits c t call ≡ o → Gives call o g → CallTells w t (note_of w.next_hand g) (Some (id, call))
  call_tells id call c o g at is gives = (
    told_is call o g gives ∙ sym (ap (λ x. told_of call x) is) ∙ sym (ap (λ x. told_at w t call x) at),
    first_is w.next_hand g.given ∙ ap (λ l. first_shown w.next_hand l) (sym (given_is call o g gives)) ∙ sym (ap (λ x. first_shown w.next_hand (gives_in x)) is)
        ∙ sym (ap (λ x. hand_of w t call x) at),
  )

-- what may grow
pub event_grows : (w : World) (e : model.Event) (a : SessionId × Call) → call_in w.hands e ≡ Some a → grows_by a.1 ≡ true → may_grow w e ≡ true
event_grows w (model.On id step) a e grows = (let same : (id, plain_call step) ≡ a = cc in ap (λ (x : SessionId × Call). grows_by x.1) same ∙ grows)
event_grows w (model.Spend k by) a e grows = ap (λ o. grows_in o) e ∙ grows
event_grows w model.OpenClient a e grows = refl
event_grows w (model.OpenServer mode) a e grows = refl
event_grows w (model.TakeOutOf id) a e grows = absurd (cc)
event_grows w model.Restart a e grows = absurd (cc)

pub looked_at : (w : World) (rest : List Hand) (id : SessionId) (c : Connection) (call : Call) (o : Outcome) → IsLookedAt (after_outcome w rest id c call o)
looked_at w rest id c call (Refused why) = tt
looked_at w rest id c call Unrecorded = tt
looked_at w rest id c call (Recorded e gives) = tt
