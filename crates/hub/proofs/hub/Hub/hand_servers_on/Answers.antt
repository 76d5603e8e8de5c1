use Rattle.std.proofs.Common.{Some, rules, vec_len}
use Rattle.hub_delivery.specs.Losing.{FailsAll}
use Rattle.hub.proofs.Taken.{handed_on}
use Rattle.hub.proofs.hub.Hub.hand_servers_on.Goals as goal

pub returns-clause-handed : goal.returns-clause-handed
returns-clause-handed g c =
    handed_on c.args.now g.L.HubLedger.sessions g.L.HubLedger.servers (vec_len c.args.self.now.slots.downs)
    (vec_len c.args.self.now.slots.ups) (Some c.args.seat.now.number) (Some c.number-server.result) c.args.seat.now.orders
    c.seat.inside.routes c.count.new.self.orders c.carry.new.routes c.args.batch.now.errands c.batch.inside.errands.items
    c.carry.new.batch.errands
    (FailsAll g.L.HubLedger.sessions g.L.HubLedger.servers c.args.self.now.slots.server_window c.args.seat.now.number)
    (search rules) (search rules) (search rules) (search rules) (search rules) (search rules)
    c.carry.ensures.carried c.carry.ensures.clients c.carry.ensures.servers c.carry.ensures.refused (search rules)
