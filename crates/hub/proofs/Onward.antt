-- A dispatch goes on: it stays in hand, as it is, until a session of a server or of its client took it by its own step.
use Rattle.std.proofs.Common.{◌≡◌, ◌<◌, ◌⊎◌, ℕ, List, Option, Some, None, Result, Ok, Err, inl, inr, refl, sym, ap, ◌∙◌, subst, subst₂}
use Rattle.route_table.specs.Routes.{Change}
use Rattle.translate_book.specs.Values.{TicketView}
use Rattle.translate_book.specs.declared.placed.Placed.{Placed}
use Rattle.translate_book.specs.declared.refusal.OfferRefusal.{OfferRefusal}
use Rattle.server_session.specs.Steps.{NackStep, UnrouteStep}
use Rattle.hub_base.specs.Errands.{back, client_of, errand_at, server_of}
use Rattle.hub_base.specs.declared.errands.Back.TheVariants as why
use Rattle.hub_base.specs.declared.errands.Errand.{Errand}
use Rattle.hub_base.specs.declared.errands.Value.{Value}
use Rattle.hub_base.specs.declared.errands.Value.TheVariants as value
use Rattle.hub_steps.specs.Batches.{after_offer}
use Rattle.hub_slots.specs.Locked.{LockedDown}
use Rattle.hub_places.specs.Numbering.{KeepsDown}
use Rattle.hub_delivery.specs.Carrying.{Carries, HasRoute, IsChosen, OfferedTo, Offers, OffersTo, Retries, TriesOthers}
use Rattle.hub_delivery.specs.Carrying as carrying
use Rattle.hub_delivery.specs.Leaving.{HasClient, HasServer, NoneAt, NoneRefused, refused_of, server_place}
use Rattle.hub.specs.Laws.{GoesHome, GoesOn, HasNoServer, OnAgain, Sends, TriedOthers}
use Rattle.hub.specs.Laws as laws
use Rattle.hub.proofs.Followed.{Follows}

-- A DISPATCH IN HAND

-- what is so of a value that is this dispatch on its way
abbrev InHand : (now ups : ℕ) → (but : Option ℕ) → (known learned : List Change) → TicketView → ℕ → Value → Type 0
InHand now ups but known learned ticket to (value.Ticket t) = (t ≡ ticket)
InHand now ups but known learned ticket to (value.Refused by t) =
    (t ≡ ticket) × IsChosen ups but known learned ticket by
    × (refusal : OfferRefusal) × OffersTo now by ticket (Err (refusal, ticket))
InHand now ups but known learned ticket to (value.Unplaced t) =
    (t ≡ ticket) × (to ≡ ticket.name.client) × HasNoServer now ups but known learned ticket
InHand now ups but known learned ticket to (value.Unrouted t) =
    (t ≡ ticket) × (to ≡ ticket.name.client) × HasRoute known learned ticket None
InHand now ups but known learned ticket to _ = ⊥

-- it went on, or is still in hand
abbrev pub OnItsWay : (now ups : ℕ) → (but : Option ℕ) → (known learned : List Change) → TicketView → Errand → Type 0
OnItsWay now ups but known learned ticket e =
    GoesOn now ups but known learned ticket ⊎ InHand now ups but known learned ticket e.to e.value

pub over : {A B C : Type 0} → (B → A ⊎ C) → A ⊎ B → A ⊎ C
over f (inl a) = inl a
over f (inr b) = f b

-- the dispatch that a refusal hands back
handed : Result Placed (OfferRefusal × TicketView) → TicketView → TicketView
handed (Ok placed) ticket = ticket
handed (Err refused) ticket = refused.1

-- an offer that is refused hands the dispatch back as it is
offer_same : (now server : ℕ) (ticket t : TicketView) (refusal : OfferRefusal) → OffersTo now server ticket (Err (refusal, t))
    → t ≡ ticket
unfolding handed
offer_same now server ticket t refusal (None, u, step, gone, ks, ku) = ap (λ r. handed r ticket) (gone refl)
offer_same now server ticket t refusal (Some s, None, step, gone, ks, ku) = absurd step
offer_same now server ticket t refusal (Some s, Some u, step, gone, ks, ku) =
    (let made = step.2 ks.0.1.0 ks.0.1.1 ks.0.1.2 in made.1.2)

-- and so do others
others_same : (now ups : ℕ) (ticket : TicketView) (servers : List ℕ) (result : Result Placed TicketView) (t : TicketView)
    → OfferedTo now ups ticket servers result → result ≡ Err t → t ≡ ticket
others_same now ups ticket servers result t carrying.OfferedTo.none is = cc is
others_same now ups ticket servers result t (carrying.OfferedTo.taken place placed offers) is =
    absurd (let no : Ok placed ≡ Err t = is in cc)
others_same now ups ticket servers result t (carrying.OfferedTo.next {others} place refusal offers q) is =
    others_same now ups ticket others result t q is

offered : (now ups : ℕ) (but : Option ℕ) (known learned : List Change) (ticket : TicketView) (server : ℕ)
    (result : Result Placed (OfferRefusal × TicketView)) → IsChosen ups but known learned ticket server
    → OffersTo now server ticket result
    → OnItsWay now ups but known learned ticket (after_offer server result)
offered now ups but known learned ticket server (Ok placed) sent offers = inl (laws.GoesOn.taken server placed sent offers)
offered now ups but known learned ticket server (Err (refusal, t)) sent offers =
    let same = offer_same now server ticket t refusal offers in
    inr (same, sent, refusal, subst (λ u. OffersTo now server ticket (Err (refusal, u))) same offers)

tried : (now ups : ℕ) (but : Option ℕ) (known learned : List Change) (ticket : TicketView) (by : ℕ) (route : Option (List ℕ)) (made : Errand)
    → HasRoute known learned ticket route → Retries now ups but (server_place ups by) route ticket made
    → IsChosen ups but known learned ticket by → (refusal : OfferRefusal) → OffersTo now by ticket (Err (refusal, ticket))
    → OnItsWay now ups but known learned ticket made
tried now ups but known learned ticket by None made route is sent refusal offers =
    subst (λ e. OnItsWay now ups but known learned ticket e) (sym is) (inr (refl, refl, route))
tried now ups but known learned ticket by (Some servers) made route (Ok placed, tries, is) sent refusal offers =
    inl (laws.GoesOn.taken_by_other placed (by, refusal, servers, sent, offers, route, tries))
tried now ups but known learned ticket by (Some servers) made route (Err t, tries, is) sent refusal offers =
    let same = others_same now ups ticket _ _ t tries.4 refl in
    subst (λ e. OnItsWay now ups but known learned ticket e) (sym (is ∙ ap (λ u. back u why.Unplaced) same))
    (inr (
      refl,
      refl,
      inr (
        by,
        refusal,
        servers,
        sent,
        offers,
        route,
        subst (λ u. TriesOthers now ups servers but (server_place ups by) ticket (Err u)) same tries,
      ),
    ))

pub dispatch_follows : (now ups : ℕ) (but : Option ℕ) (known learned : List Change) (ticket : TicketView)
    → Follows now ups but known learned (OnItsWay now ups but known learned ticket)
dispatch_follows now ups but known learned ticket = record {
  notes = λ client placed result locked. over (λ h. absurd h);
  settles = λ client x result locked. over (λ h. absurd h);
  nacks = λ client t result locked. over (λ h. inl (laws.GoesOn.nacked result h.2
      (subst₂ (λ n u. LockedDown (KeepsDown n) (λ p q. NackStep p u result q) (result ≡ Err u)) h.1 h.0 locked)));
  unroutes = λ client t result locked. over (λ h. inl (laws.GoesOn.unrouted result h.2
      (subst₂ (λ n u. LockedDown (KeepsDown n) (λ p q. UnrouteStep p u result q) (result ≡ Err u)) h.1 h.0 locked)));
  offers = λ server t result chosen locked. over (λ h. offered now ups but known learned ticket server result
      (subst (λ u. IsChosen ups but known learned u server) h chosen)
      (subst (λ u. OffersTo now server u result) h locked));
  recalls = λ server r result locked. over (λ h. absurd h);
  turns_back = λ to t route. over (λ h. inr (
    h,
    ap (λ (u : TicketView). u.name.client) h,
    subst (λ u. HasRoute known learned u None) h route,
  ));
  stays_back = λ to t servers route choice. over (λ h. inr (
    h,
    ap (λ (u : TicketView). u.name.client) h,
    inl (servers, subst (λ u. HasRoute known learned u (Some servers)) h route, choice),
  ));
  aims = λ to t number. over (λ h. inr h);
  tries = λ to by t route made has made_by. over (λ h. tried now ups but known learned ticket by route made
      (subst (λ u. HasRoute known learned u route) h.0 has)
      (subst (λ u. Retries now ups but (server_place ups by) route u made) h.0 made_by) h.1 h.2 h.3);
}

-- a dispatch that isn't in hand went on
not_in_hand : (now downs ups : ℕ) (but : Option ℕ) (known learned : List Change) (ticket : TicketView) (to : ℕ) (v : Value)
    → ((n : ℕ) → client_of to v ≡ Some n → HasClient downs n → ⊥) → ((n : ℕ) → server_of to v ≡ Some n → 0 < ups → ⊥)
    → ((n : ℕ) → refused_of to v ≡ Some n → Unit {0} → ⊥) → 0 < ups → HasClient downs ticket.name.client
    → InHand now ups but known learned ticket to v → ⊥
not_in_hand now downs ups but known learned ticket to (value.Ticket t) clients servers refused some has h = servers to refl some
not_in_hand now downs ups but known learned ticket to (value.Refused by t) clients servers refused some has h = refused by refl tt
not_in_hand now downs ups but known learned ticket to (value.Unplaced t) clients servers refused some has h =
    clients to refl (subst (λ n. HasClient downs n) (sym h.1) has)
not_in_hand now downs ups but known learned ticket to (value.Unrouted t) clients servers refused some has h =
    clients to refl (subst (λ n. HasClient downs n) (sym h.1) has)
not_in_hand now downs ups but known learned ticket to value.Nothing clients servers refused some has h = absurd h
not_in_hand now downs ups but known learned ticket to (value.Placed p) clients servers refused some has h = absurd h
not_in_hand now downs ups but known learned ticket to (value.Reply x) clients servers refused some has h = absurd h
not_in_hand now downs ups but known learned ticket to (value.Recall r) clients servers refused some has h = absurd h
not_in_hand now downs ups but known learned ticket to value.Closing clients servers refused some has h = absurd h

pub went_on : (now downs ups : ℕ) (but : Option ℕ) (known learned : List Change) (ticket : TicketView) (left : List Errand) (i : ℕ)
    → NoneAt client_of (HasClient downs) left i → NoneAt server_of (HasServer ups) left i → NoneRefused left i
    → 0 < ups → HasClient downs ticket.name.client
    → OnItsWay now ups but known learned ticket (errand_at left i) → GoesOn now ups but known learned ticket
went_on now downs ups but known learned ticket left i clients servers refused some has (inl goes) = goes
went_on now downs ups but known learned ticket left i clients servers refused some has (inr h) =
    absurd (not_in_hand now downs ups but known learned ticket (errand_at left i).to (errand_at left i).value clients servers refused some has h)
