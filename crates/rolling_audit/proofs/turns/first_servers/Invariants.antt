use Rattle.rolling_audit.specs.Turns.{AreFirst}
use Rattle.rolling_audit.proofs.turns.first_servers.Given as goal

abbrev pub invariant-loop-server : goal.invariant-loop-server
invariant-loop-server l = AreFirst l.servers.items l.server
