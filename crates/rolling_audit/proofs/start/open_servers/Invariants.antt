use Rattle.std.proofs.Common.{◌≡◌}
use Rattle.rolling_audit.proofs.Opened.{AreOpened}
use Rattle.rolling_audit.proofs.start.open_servers.Given as goal

abbrev pub invariant-loop-server : goal.invariant-loop-server
invariant-loop-server l = AreOpened l.modes l.slots l.server l.audit × (l.audit.lives.boot ≡ l.boot)
