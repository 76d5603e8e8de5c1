use Rattle.std.proofs.Common.{drop, Result}
use Rattle.balancer.specs.Order.{servers_in}
use Rattle.balancer.specs.Offers.{Offered}
use Rattle.translate_book.specs.Values.{TicketView}
use Rattle.translate_book.specs.declared.placed.Placed.{Placed}
use Rattle.balancer.proofs.offers.place.Given as goal

abbrev pub invariant-loop-place : goal.invariant-loop-place
invariant-loop-place g l = (result : Result Placed TicketView) (after : g.row.O.Denot)
    → Offered g.O.Offerer.offers (servers_in l.candidates (drop l.place-index l.place-items)) l.offerer l.ticket result after
    → Offered g.O.Offerer.offers (servers_in l.candidates l.place-items) l.fn.offerer l.fn.ticket result after
