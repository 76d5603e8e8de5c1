use Rattle.rolling_audit.proofs.Opening.{ends}
use Rattle.rolling_audit.proofs.rolling.RollingAudit.end.Goals as goal

pub returns-clause-stays : goal.returns-clause-stays
returns-clause-stays c = ends c.args.self.now c.remove_trail.new.self c.args.session c.remove_trail.ensures.trails c.remove_trail.ensures.lasts c.remove_trail.ensures.lives
