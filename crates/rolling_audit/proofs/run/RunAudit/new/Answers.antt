use Rattle.std.proofs.Common.{refl}
use Rattle.rolling_audit.proofs.Covered.{covers_first}
use Rattle.rolling_audit.proofs.run.RunAudit.new.Goals as goal

pub returns-clause-covers : goal.returns-clause-covers
returns-clause-covers c =
    covers_first (record { audit = c.in_ok-audit.audit; turns = c.in_ok-turns.turns; modes = c.in_ok-kept.kept; counts = c.none.result; records = 0 }) c.args.sessions c.args.modes.now
    c.in_ok-audit.ensures.taken c.in_ok-audit.ensures.lasts c.in_ok-turns.ensures.numbers c.in_ok-turns.ensures.next c.none.ensures refl
