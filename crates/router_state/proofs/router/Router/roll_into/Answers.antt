use Rattle.router_state.proofs.Staying.{goes_from, rolled_stays}
use Rattle.router_state.proofs.router.Router.roll_into.Goals as goal

pub returns-in-Client : goal.returns-in-Client
returns-in-Client g c = goes_from _ _ _ c.in-Client.is
    (rolled_stays _ _ _ c.roll_client.result c.roll_client.ensures.ok c.roll_client.ensures.err)

pub returns-in-Server : goal.returns-in-Server
returns-in-Server g c = goes_from _ _ _ c.in-Server.is
    (rolled_stays _ _ _ c.roll_server.result c.roll_server.ensures.ok c.roll_server.ensures.err)
