use Rattle.std.proofs.Common.{rules}
use Rattle.rolling_audit.proofs.Covered.{covers_ended}
use Rattle.rolling_audit.proofs.run.RunAudit.end.Goals as goal

pub returns-clause-covers : goal.returns-clause-covers
returns-clause-covers c =
    covers_ended c.args.self.now c.end-2.new.self c.end.new.self c.args.session c.end-2.ensures (search rules) c.end.ensures.stays c.end.ensures.trails c.end.ensures.lasts
