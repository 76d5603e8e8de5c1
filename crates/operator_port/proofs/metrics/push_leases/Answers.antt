use Rattle.std.proofs.Common.{map, codes}
use Rattle.operator_port.specs.Metrics.{gauge, lease_sample}
use Rattle.operator_port.proofs.TextLemmas.{headed}
use Rattle.operator_port.proofs.metrics.push_leases.Goals as goal

pub returns : goal.returns
returns c =
    headed (gauge (codes "voltgalley_server_lease_seconds") (codes "What is left of the server's lease."))
    (map (lease_sample c.args.elapsed) c.args.servers.now) _ _ _ c.in_ok-push_gauge.ensures c.in_ok-push_all.ensures
