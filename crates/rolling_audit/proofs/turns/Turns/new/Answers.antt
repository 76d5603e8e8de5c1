use Rattle.std.proofs.Common.{ap, ◌∙◌, rules, None}
use Rattle.std.specs.Prelude.{map}
use Rattle.rolling_audit.proofs.Turned.{begins_by, no_clients}
use Rattle.rolling_audit.proofs.turns.Turns.new.Goals as goal

pub returns-clause-next : goal.returns-clause-next
returns-clause-next c = begins_by (record { clients = c.in_ok-clients.clients; servers = c.in_ok-servers.servers }) c.args.slots c.args.servers (search rules) c.in_ok-servers.ensures

pub returns-clause-numbers : goal.returns-clause-numbers
returns-clause-numbers c = ap (map (λ e. e.number)) (search rules) ∙ no_clients c.args.slots (record { number = 0; next = None })
