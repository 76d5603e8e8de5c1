use Rattle.router_state.proofs.Staying.{goes_from, grown_stays}
use Rattle.router_state.proofs.seat.AnySeat.grow.Goals as goal

pub returns-in-Client : goal.returns-in-Client
returns-in-Client g c = goes_from _ _ _ c.in-Client.is
    (grown_stays _ _ _ c.grow.result c.grow.ensures.ok c.grow.ensures.err)

pub returns-in-Server : goal.returns-in-Server
returns-in-Server g c = goes_from _ _ _ c.in-Server.is
    (grown_stays _ _ _ c.grow-in-Server.result c.grow-in-Server.ensures.ok c.grow-in-Server.ensures.err)
