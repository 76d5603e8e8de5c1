use Rattle.router_state.proofs.Staying.{goes_from, settled_stays}
use Rattle.router_state.proofs.seat.AnySeat.settle.Goals as goal

pub returns-in-Client : goal.returns-in-Client
returns-in-Client g c = goes_from _ _ _ c.in-Client.is
    (settled_stays _ _ _ _ c.settle.result c.settle.ensures.settled c.settle.ensures.same c.settle.ensures.err)

pub returns-in-Server : goal.returns-in-Server
returns-in-Server g c = goes_from _ _ _ c.in-Server.is
    (settled_stays _ _ _ _ c.settle-in-Server.result c.settle-in-Server.ensures.settled c.settle-in-Server.ensures.same
    c.settle-in-Server.ensures.err)
