use Rattle.std.proofs.Common.{◌≤◌, Some, Result, drop, vec_len}
use Rattle.server_session.specs.Steps.{ticket_of}
use Rattle.hub_places.specs.Holding.{Holds, beside}
use Rattle.translate_book.specs.Values.{TicketView}
use Rattle.translate_book.specs.declared.placed.Placed.{Placed}
use Rattle.balancer.specs.Order.{servers_in}
use Rattle.hub_delivery.specs.Carrying.{OfferedTo}
use Rattle.hub_delivery.proofs.slots.Slots.offer.Given as goal

-- what comes of the rest of the candidates comes of all
abbrev pub invariant-loop-at : goal.invariant-loop-at
invariant-loop-at g l =
    (l.initial.made ≤ l.made) × Holds l.claims (beside (Some (ticket_of l.ticket)) l.others.items)
    × ((result : Result Placed TicketView)
    → OfferedTo l.now (vec_len l.self.ups) l.ticket (servers_in l.candidates.items (drop l.at-index l.at-items)) result
    → OfferedTo l.now (vec_len l.self.ups) l.fn.ticket (servers_in l.candidates.items l.at-items) result)
