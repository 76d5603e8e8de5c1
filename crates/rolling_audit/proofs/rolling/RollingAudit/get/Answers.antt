use Rattle.rolling_audit.proofs.Opening.{get_undone}
use Rattle.rolling_audit.proofs.rolling.RollingAudit.get.Goals as goal

pub returns-clause-undone : goal.returns-clause-undone
returns-clause-undone c = get_undone c.args.self.now c.args.name c.get.result c.get.ensures
