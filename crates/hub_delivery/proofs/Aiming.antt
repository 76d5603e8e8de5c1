-- Where the dispatches in hand go, once they were aimed.
use Rattle.std.proofs.Common.{◌≡◌, ◌<◌, ◌≤◌, ◌+◌, ℕ, zero, suc, List, [], ◌∷◌, length, Option, Some, None, slice_get, slice_set, inl, inr, refl, sym, ap, ◌∙◌, subst, arith}
use Rattle.std.proofs.lemmas.Bool.{cases_eq, cases_lt}
use mathlib.Core.List.{IsPrefix}
use Rattle.mux_message.specs.Parts.{dst_of}
use Rattle.route_table.specs.Routes.{Change}
use Rattle.published_routes.specs.Orders.{route_in}
use Rattle.published_routes.proofs.Prefixes.{prefix_trans}
use Rattle.translate_book.specs.Values.{TicketView}
use Rattle.hub_base.specs.Errands.{done, errand_at, give_back, send_at, ticket_at, ticket_of}
use Rattle.hub_base.specs.declared.errands.Back.TheVariants as why
use Rattle.hub_base.specs.declared.errands.Errand.{Errand}
use Rattle.hub_base.specs.declared.errands.Value.{Value}
use Rattle.hub_base.specs.declared.errands.Value.TheVariants as value
use Rattle.hub_base.proofs.Places.{elsewhere}
use Rattle.hub_delivery.specs.Carrying.{Aims, AreAimed, IsChosen}
use Rattle.hub_delivery.specs.Leaving.{HasServer, NoMore, NoneAt, offer_of, server_place}
use Rattle.hub_delivery.proofs.Carrying.{SeenFor, send_behind}

-- what is put where something stood
pub put_here : (xs : List Errand) (at : ℕ) (e f : Errand) → errand_at xs at ≡ e → (e ≡ done → ⊥) → errand_at (slice_set xs at f) at ≡ f
put_here [] at e f is never = absurd (never (sym is))
put_here (x ∷ xs) zero e f is never = refl
put_here (x ∷ xs) (suc at) e f is never = put_here xs at e f is never

-- the value at a place where a dispatch is to be offered
pub is_ticket : (v : Value) (ticket : TicketView) → ticket_of v ≡ Some ticket → v ≡ value.Ticket ticket
is_ticket (value.Ticket t) ticket is = (let same : t ≡ ticket = cc is in ap (λ u. value.Ticket u) same)
is_ticket value.Nothing ticket is = absurd (let no : None ≡ Some ticket = is in cc)
is_ticket (value.Refused by t) ticket is = absurd (let no : None ≡ Some ticket = is in cc)
is_ticket (value.Unplaced t) ticket is = absurd (let no : None ≡ Some ticket = is in cc)
is_ticket (value.Unrouted t) ticket is = absurd (let no : None ≡ Some ticket = is in cc)
is_ticket (value.Placed p) ticket is = absurd (let no : None ≡ Some ticket = is in cc)
is_ticket (value.Reply s) ticket is = absurd (let no : None ≡ Some ticket = is in cc)
is_ticket (value.Recall r) ticket is = absurd (let no : None ≡ Some ticket = is in cc)
is_ticket value.Closing ticket is = absurd (let no : None ≡ Some ticket = is in cc)

pub with_value : (e : Errand) (v : Value) → e.value ≡ v → e ≡ record { to = e.to; value = v }
with_value e v is = ap (λ (w : Value). record e { value = w }) is

-- one that was sent is the same, with another number
pub sent_set : (xs : List Errand) (at n : ℕ) → send_at xs at n ≡ slice_set xs at (record (errand_at xs at) { to = n })
sent_set [] at n = refl
sent_set (x ∷ xs) zero n = refl
sent_set (x ∷ xs) (suc at) n = send_behind x xs at n (slice_get xs at) ∙ ap (λ ys. x ∷ ys) (sent_set xs at n)

-- a dispatch is something to do
some_ticket : (to : ℕ) (ticket : TicketView) → record { to = to; value = value.Ticket ticket } ≡ done → ⊥
some_ticket to ticket same =
    absurd (let no : Some ticket ≡ None = ap (λ (x : Errand). ticket_of x.value) same in cc)

-- what is put where a dispatch stood
put_ticket : (xs : List Errand) (at : ℕ) (ticket : TicketView) (f : Errand) → ticket_at xs at ≡ Some ticket
    → errand_at (slice_set xs at f) at ≡ f
put_ticket xs at ticket f is =
    put_here xs at _ f (with_value (errand_at xs at) (value.Ticket ticket) (is_ticket (errand_at xs at).value ticket is))
    (some_ticket (errand_at xs at).to ticket)

-- of one that is given back no dispatch stands there
no_ticket : (xs zs : List Errand) (at : ℕ) (ticket t : TicketView) (f : Errand) → ticket_at xs at ≡ Some ticket
    → zs ≡ slice_set xs at f → ticket_of f.value ≡ None → ticket_at zs at ≡ Some t → ⊥
no_ticket xs zs at ticket t f is put none found =
    let there : errand_at zs at ≡ f = ap (λ ys. errand_at ys at) put ∙ put_ticket xs at ticket f is in
    absurd (let no : None ≡ Some t = sym none ∙ ap (λ (e : Errand). ticket_of e.value) (sym there) ∙ found in cc)

-- what is given back of a dispatch
given_back : (xs : List Errand) (at : ℕ) (ticket : TicketView) → ticket_at xs at ≡ Some ticket
    → (ticket_of (give_back why.Unrouted (errand_at xs at)).value ≡ None)
    × (ticket_of (give_back why.Unplaced (errand_at xs at)).value ≡ None)
given_back xs at ticket is =
    let here = is_ticket (errand_at xs at).value ticket is in (
      ap (λ v. ticket_of (give_back why.Unrouted (record { to = (errand_at xs at).to; value = v })).value) here,
      ap (λ v. ticket_of (give_back why.Unplaced (record { to = (errand_at xs at).to; value = v })).value) here,
    )

-- a dispatch that was aimed, and didn't go back, is for a server that was chosen
aimed_here : (slots : ℕ) (but : Option ℕ) (known later : List Change) (ys zs : List Errand) (at : ℕ) (ticket t : TicketView)
    (dst : List ℕ) (seen : List Change) (route : Option (List ℕ)) → ticket_at ys at ≡ Some ticket
    → dst_of ticket.content ≡ Some dst → IsPrefix known seen → IsPrefix seen later → route ≡ route_in dst seen
    → Aims slots but route at ys zs → ticket_at zs at ≡ Some t → IsChosen slots but known later t (errand_at zs at).to
aimed_here slots but known later ys zs at ticket t dst seen None is of first next same put found =
    absurd (no_ticket ys zs at ticket t _ is put (given_back ys at ticket is).0 found)
aimed_here slots but known later ys zs at ticket t dst seen (Some servers) is of first next same (None, choice, put) found =
    absurd (no_ticket ys zs at ticket t _ is put (given_back ys at ticket is).1 found)
aimed_here slots but known later ys zs at ticket t dst seen (Some servers) is of first next same (Some place, choice, (number, there, put)) found =
    let made : Errand = record (errand_at ys at) { to = number } in
    let stands : errand_at zs at ≡ made =
    ap (λ es. errand_at es at) (put ∙ sent_set ys at number) ∙ put_ticket ys at ticket made is in
    let one : ticket ≡ t = cc (sym is ∙ ap (λ (e : Errand). ticket_of e.value) (sym stands) ∙ found) in
    subst (λ (e : Errand). IsChosen slots but known later t e.to) (sym stands)
    (subst (λ u. IsChosen slots but known later u number) one
    (servers, place, (dst, seen, of, first, next, same), choice, there))

-- the other places stay as they are
aimed_elsewhere : (slots : ℕ) (but : Option ℕ) (ys zs : List Errand) (at i : ℕ) (route : Option (List ℕ))
    → Aims slots but route at ys zs → (i ≡ at → ⊥) → errand_at zs i ≡ errand_at ys i
aimed_elsewhere slots but ys zs at i None put other = ap (λ es. errand_at es i) put ∙ elsewhere ys at i _ other
aimed_elsewhere slots but ys zs at i (Some servers) (None, choice, put) other =
    ap (λ es. errand_at es i) put ∙ elsewhere ys at i _ other
aimed_elsewhere slots but ys zs at i (Some servers) (Some place, choice, (number, there, put)) other =
    ap (λ es. errand_at es i) (put ∙ sent_set ys at number) ∙ elsewhere ys at i _ other

-- a choice by orders that were learned stays one as more are learned
pub chosen_later : (slots : ℕ) (but : Option ℕ) (known os later : List Change) (ticket : TicketView) (server : ℕ)
    → IsPrefix os later → IsChosen slots but known os ticket server → IsChosen slots but known later ticket server
chosen_later slots but known os later ticket server more (servers, place, (dst, seen, of, first, next, route), choice, there) =
    (servers, place, (dst, seen, of, first, prefix_trans seen os later next more, route), choice, there)

-- each dispatch before a place is for a server that was chosen
abbrev pub AreAimedBelow : (below slots : ℕ) → (but : Option ℕ) → (known learned : List Change) → List Errand → Type 0
AreAimedBelow below slots but known learned xs =
    (i : ℕ) → i < below → (ticket : TicketView) → ticket_at xs i ≡ Some ticket
    → IsChosen slots but known learned ticket (errand_at xs i).to

below_other : (i at : ℕ) → i < at + 1 → (i ≡ at → ⊥) → i < at
below_other i at within other =
    elim (cases_lt i at) [
      | inl less ↦ less
      | inr more ↦ absurd (other (omega (arith, within, more)))
    ]

-- one place more was aimed
pub below_next : (slots : ℕ) (but : Option ℕ) (known os later : List Change) (ys zs : List Errand) (at : ℕ)
    (ticket : TicketView) (dst : List ℕ) (servers found : Option (List ℕ)) → AreAimedBelow at slots but known os ys
    → IsPrefix os later → ticket_at ys at ≡ Some ticket → dst_of ticket.content ≡ Some dst → SeenFor known later dst found
    → servers ≡ found → Aims slots but servers at ys zs → AreAimedBelow (at + 1) slots but known later zs
below_next slots but known os later ys zs at ticket dst servers found before more is of (seen, first, next, route) same aims i within t stands =
    elim (cases_eq i at) [
      | inl here ↦
          subst (λ k. IsChosen slots but known later t (errand_at zs k).to) (sym here)
          (aimed_here slots but known later ys zs at ticket t dst seen servers is of first next (same ∙ route) aims
          (ap (λ k. ticket_at zs k) (sym here) ∙ stands))
      | inr other ↦
          (let less : i < at = below_other i at within other in
          let as_before : errand_at zs i ≡ errand_at ys i = aimed_elsewhere slots but ys zs at i servers aims other in
          subst (λ (e : Errand). IsChosen slots but known later t e.to) (sym as_before)
          (chosen_later slots but known os later t (errand_at ys i).to more
          (before i less t (ap (λ (e : Errand). ticket_of e.value) (sym as_before) ∙ stands))))
    ]

-- the word for an offer tells where a dispatch is to be offered
offer_there : (to : ℕ) (v : Value) (ticket : TicketView) → ticket_of v ≡ Some ticket → offer_of to v ≡ Some to
offer_there to v ticket is = ap (offer_of to) (is_ticket v ticket is)

ticket_there : (to n : ℕ) (v : Value) → offer_of to v ≡ Some n → (ticket : TicketView) × (ticket_of v ≡ Some ticket)
ticket_there to n (value.Ticket ticket) found = (ticket, refl)
ticket_there to n value.Nothing found = absurd (let no : None ≡ Some n = found in cc)
ticket_there to n (value.Refused by t) found = absurd (let no : None ≡ Some n = found in cc)
ticket_there to n (value.Unplaced t) found = absurd (let no : None ≡ Some n = found in cc)
ticket_there to n (value.Unrouted t) found = absurd (let no : None ≡ Some n = found in cc)
ticket_there to n (value.Placed p) found = absurd (let no : None ≡ Some n = found in cc)
ticket_there to n (value.Reply s) found = absurd (let no : None ≡ Some n = found in cc)
ticket_there to n (value.Recall r) found = absurd (let no : None ≡ Some n = found in cc)
ticket_there to n value.Closing found = absurd (let no : None ≡ Some n = found in cc)

-- no dispatch is past the end
no_ticket_past : (xs : List Errand) (i : ℕ) (ticket : TicketView) → length xs ≤ i → ticket_at xs i ≡ Some ticket → ⊥
no_ticket_past [] i ticket past is = absurd (let no : None ≡ Some ticket = is in cc)
no_ticket_past (x ∷ xs) zero ticket past is = absurd (omega (arith, past))
no_ticket_past (x ∷ xs) (suc i) ticket past is = no_ticket_past xs i ticket (omega (arith, past)) is

-- once all places were looked at each dispatch is
pub all_aimed : (slots : ℕ) (but : Option ℕ) (known os : List Change) (xs : List Errand) (at : ℕ) → length xs ≤ at
    → AreAimedBelow at slots but known os xs → AreAimed slots but known os xs
all_aimed slots but known os xs at end before i ticket is =
    elim (cases_lt i at) [
      | inl less ↦ before i less ticket is
      | inr more ↦ absurd (no_ticket_past xs i ticket (omega (arith, end, more)) is)
    ]

-- a place is that of a slot only if there is one
some_slot : (slots server place : ℕ) → server_place slots server ≡ Some place → 0 < slots
some_slot zero server place is = absurd (let no : None ≡ Some place = is in cc)
some_slot (suc slots) server place is = omega arith

-- where no dispatch is left that could be offered, each was aimed
pub none_aimed : (slots : ℕ) (but : Option ℕ) (known os later : List Change) (ys zs : List Errand)
    → AreAimed slots but known os ys → NoMore offer_of ys zs → ((i : ℕ) → NoneAt offer_of (HasServer slots) zs i)
    → AreAimed slots but known later zs
none_aimed slots but known os later ys zs aimed fewer none i ticket is =
    let offer = offer_there (errand_at zs i).to (errand_at zs i).value ticket is in
    let (t, was) = ticket_there (errand_at ys i).to (errand_at zs i).to (errand_at ys i).value (fewer i (errand_at zs i).to offer) in
    let (servers, place, route, choice, there) = aimed i t was in
    absurd (none i (errand_at zs i).to offer (some_slot slots (errand_at ys i).to place there))
