-- What a call does with the values of its batch, from those that its steps gave to its end.
use Rattle.std.specs.Prelude.{◌≡◌, ◌≢◌, ◌<◌, ◌≤◌, ◌⊎◌, ℕ, List, [], ◌∷◌, length, Option, Some, None, Result, Ok, Err, slice_index, slice_set}
use mathlib.Core.List.{IsPrefix}
use Rattle.mux_message.specs.Parts.{dst_of}
use Rattle.route_table.specs.Routes.{Change}
use Rattle.published_routes.specs.Orders.{route_in}
use Rattle.translate_book.specs.Values.{TicketView}
use Rattle.translate_book.specs.declared.placed.Placed.{Placed}
use Rattle.translate_book.specs.declared.refusal.OfferRefusal.{OfferRefusal}
use Rattle.translate_book.specs.declared.refusal.OfferRefusal.TheVariants.{Closed}
use Rattle.mux_model.specs.Steps.{Held, PlacedAt}
use Rattle.server_session.specs.Steps.{ticket_of}
use Rattle.client_session.specs.Steps.{OfferStep}
use Rattle.kept_session.specs.Reached.{Kept}
use Rattle.kept_session.specs.ReachedDown.{KeptDown}
use Rattle.balancer.specs.Order.{IsOrder, loads_of, servers_in}
use Rattle.hub_base.specs.Errands.{back, errand_at, give_back, placing, send_at, ticket_at}
use Rattle.hub_base.specs.declared.errands.Back.TheVariants as why
use Rattle.hub_base.specs.declared.errands.Errand.{Errand}
use Rattle.hub_base.specs.declared.errands.Value.TheVariants as value
use Rattle.hub_steps.specs.Batches.{AnswersDown, ServesUp}
use Rattle.hub_slots.specs.Choosing.{Chooses}
use Rattle.hub_slots.specs.Locked.{LockedUp}
use Rattle.hub_places.specs.Numbering.{KeepsDown, KeepsUp}
use Rattle.hub_delivery.specs.Leaving.{server_place}

-- the place of the slot of a server's session, if one is given
abbrev pub place_if : ℕ → Option ℕ → Option ℕ
place_if slots None = None
place_if slots (Some server) = server_place slots server

-- values that go to clients were handed to their sessions: those of each client under one lock, by its session's own steps
pub data Answered (xs : List Errand) : List Errand → Type 0 where
  none : Answered xs xs
  next : {ys zs : List Errand} (client : ℕ) (s t : Option KeptDown)
      → AnswersDown client s ys t zs → KeepsDown client s → KeepsDown client t → Answered xs ys → Answered xs zs

-- the same of what goes to servers, at this reading
pub data Served (now : ℕ) (xs : List Errand) : List Errand → Type 0 where
  none : Served now xs xs
  next : {ys zs : List Errand} (server : ℕ) (s t : Option Kept)
      → ServesUp now server s ys t zs → KeepsUp server s → KeepsUp server t → Served now xs ys → Served now xs zs

-- a dispatch is to be offered to the session in the slot that was chosen; it goes back to its client if none was
abbrev pub AimsAt : (slots : ℕ) → (chosen : Option ℕ) → (at : ℕ) → (old new : List Errand) → Type 0
AimsAt slots None at old new = new ≡ slice_set old at (give_back why.Unplaced (errand_at old at))
AimsAt slots (Some place) at old new =
    (number : ℕ) × (server_place slots number ≡ Some place) × (new ≡ send_at old at number)

-- the choice among the servers of its route: the least load, but not this server. Without a route it goes back
abbrev pub Aims : (slots : ℕ) → (but : Option ℕ) → (route : Option (List ℕ)) → (at : ℕ) → (old new : List Errand) → Type 0
Aims slots but None at old new = new ≡ slice_set old at (give_back why.Unrouted (errand_at old at))
Aims slots but (Some servers) at old new =
    (chosen : Option ℕ) × Chooses slots but servers chosen × AimsAt slots chosen at old new

-- dispatches were aimed, each by the route that its destination had after orders that begin with the known ones
pub data Aimed (slots : ℕ) (but : Option ℕ) (known : List Change) (xs : List Errand) : List Change → List Errand → Type 0
  where
    none : Aimed slots but known xs known xs
    learn : {os later : List Change} {ys : List Errand}
        → IsPrefix os later → Aimed slots but known xs os ys → Aimed slots but known xs later ys
    aim : {os : List Change} {ys zs : List Errand} (at : ℕ) (ticket : TicketView) (dst : List ℕ) (seen : List Change)
        → ticket_at ys at ≡ Some ticket → dst_of ticket.content ≡ Some dst → IsPrefix known seen → IsPrefix seen os
        → Aims slots but (route_in dst seen) at ys zs
        → Aimed slots but known xs os ys → Aimed slots but known xs os zs

-- this server's session made its own step on an offer of it, at this reading; a slot without that session refused it
abbrev pub OffersTo : (now server : ℕ) → TicketView → Result Placed (OfferRefusal × TicketView) → Type 0
OffersTo now server ticket result =
    LockedUp (KeepsUp server) (λ p q. OfferStep p ticket now result q) (result ≡ Err (Closed, ticket))

-- a dispatch was offered to a session of the slot at this place, by its number; no slot refuses it
abbrev pub Offers : (now slots place : ℕ) → TicketView → Result Placed (OfferRefusal × TicketView) → Type 0
Offers now slots place ticket result =
    ((server : ℕ) × (server_place slots server ≡ Some place) × OffersTo now server ticket result)
    ⊎ ((slots ≤ place) × (result ≡ Err (Closed, ticket)))

-- a dispatch was offered at these places in turn, as it is, up to the first whose session took it
pub data OfferedTo (now slots : ℕ) (ticket : TicketView) : List ℕ → Result Placed TicketView → Type 0 where
  none : OfferedTo now slots ticket [] (Err ticket)
  taken : {others : List ℕ} (place : ℕ) (placed : Placed) → Offers now slots place ticket (Ok placed)
      → OfferedTo now slots ticket (place ∷ others) (Ok placed)
  next : {others : List ℕ} {result : Result Placed TicketView} (place : ℕ) (refusal : OfferRefusal)
      → Offers now slots place ticket (Err (refusal, ticket)) → OfferedTo now slots ticket others result
      → OfferedTo now slots ticket (place ∷ others) result

-- a server of a route, but none of these two
abbrev pub IsOther : (servers : List ℕ) → (but by : Option ℕ) → ℕ → Type 0
IsOther servers but by server =
    (at : ℕ) × (at < length servers) × (slice_index servers at ≡ server) × (but ≢ Some server) × (by ≢ Some server)

-- candidates are such servers
abbrev pub AreOthers : (servers : List ℕ) → (but by : Option ℕ) → (candidates : List (ℕ × ℕ)) → Type 0
AreOthers servers but by [] = Unit {0}
AreOthers servers but by (candidate ∷ others) = IsOther servers but by candidate.0 × AreOthers servers but by others

-- a dispatch was offered to other servers of a route, the least load first
abbrev pub TriesOthers : (now slots : ℕ) → (servers : List ℕ) → (but by : Option ℕ) → TicketView
    → Result Placed TicketView → Type 0
TriesOthers now slots servers but by ticket result =
    (candidates : List (ℕ × ℕ)) × (order : List ℕ) × AreOthers servers but by candidates
    × IsOrder (loads_of candidates) order × OfferedTo now slots ticket (servers_in candidates order) result

-- what is in hand then
abbrev pub left_by_others : Result Placed TicketView → Option Held
left_by_others (Ok placed) = Some (PlacedAt placed.name placed.server placed.tag)
left_by_others (Err ticket) = Some (ticket_of ticket)

-- what comes of that
abbrev pub after_others : Result Placed TicketView → Errand
after_others (Ok placed) = placing placed
after_others (Err ticket) = back ticket why.Unplaced

-- what stands in the place of a dispatch that a server refused
abbrev pub Retries : (now slots : ℕ) → (but by : Option ℕ) → (route : Option (List ℕ)) → TicketView → Errand → Type 0
Retries now slots but by None ticket made = made ≡ back ticket why.Unrouted
Retries now slots but by (Some servers) ticket made =
    (result : Result Placed TicketView) × TriesOthers now slots servers but by ticket result
    × (made ≡ after_others result)

-- by the route of its destination after these orders
abbrev pub RetriesBy : (now slots : ℕ) → (but by : Option ℕ) → List Change → TicketView → Errand → Type 0
RetriesBy now slots but by orders ticket made =
    (dst : List ℕ) × (dst_of ticket.content ≡ Some dst) × Retries now slots but by (route_in dst orders) ticket made

-- dispatches that servers refused were offered to others
pub data Retried (now slots : ℕ) (but : Option ℕ) (known : List Change) (xs : List Errand)
    : List Change → List Errand → Type 0 where
  none : Retried now slots but known xs known xs
  retry : {os later : List Change} {ys zs : List Errand} (at by : ℕ) (ticket : TicketView) (made : Errand)
      → (errand_at ys at).value ≡ value.Refused by ticket → IsPrefix os later
      → RetriesBy now slots but (server_place slots by) later ticket made → zs ≡ slice_set ys at made
      → Retried now slots but known xs os ys → Retried now slots but known xs later zs

-- this is the route of its destination, after the orders that the call knew and some of those that it learned
abbrev pub HasRoute : (known learned : List Change) → TicketView → Option (List ℕ) → Type 0
HasRoute known learned ticket route =
    (dst : List ℕ) × (seen : List Change) × (dst_of ticket.content ≡ Some dst)
    × IsPrefix known seen × IsPrefix seen learned × (route ≡ route_in dst seen)

-- the server has the slot that was chosen among those of its route
abbrev pub IsChosen : (slots : ℕ) → (but : Option ℕ) → (known learned : List Change) → TicketView → ℕ → Type 0
IsChosen slots but known learned ticket server =
    (servers : List ℕ) × (place : ℕ) × HasRoute known learned ticket (Some servers)
    × Chooses slots but servers (Some place) × (server_place slots server ≡ Some place)

-- each dispatch in hand is for a server that was chosen by the route of its destination
abbrev pub AreAimed : (slots : ℕ) → (but : Option ℕ) → (known learned : List Change) → List Errand → Type 0
AreAimed slots but known learned xs =
    (i : ℕ) (ticket : TicketView) → ticket_at xs i ≡ Some ticket
    → IsChosen slots but known learned ticket (errand_at xs i).to

-- what a call did with the values of its batch, and with what came of them, the last thing last; and no other change
pub data Carries (now slots : ℕ) (but : Option ℕ) (known : List Change) (xs : List Errand)
    : List Change → List Errand → Type 0 where
  none : Carries now slots but known xs known xs
  answered : {os : List Change} {ys zs : List Errand}
      → Answered ys zs → Carries now slots but known xs os ys → Carries now slots but known xs os zs
  served : {os : List Change} {ys zs : List Errand}
      → AreAimed slots but known os ys → Served now ys zs → Carries now slots but known xs os ys
      → Carries now slots but known xs os zs
  aimed : {os later : List Change} {ys zs : List Errand}
      → Aimed slots but os ys later zs → Carries now slots but known xs os ys → Carries now slots but known xs later zs
  retried : {os later : List Change} {ys zs : List Errand}
      → Retried now slots but os ys later zs → Carries now slots but known xs os ys
      → Carries now slots but known xs later zs
