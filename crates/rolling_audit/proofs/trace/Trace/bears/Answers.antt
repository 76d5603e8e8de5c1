use Rattle.std.proofs.Common.{subst}
use Rattle.std.specs.Prelude.{IsTrue}
use Rattle.rolling_audit.proofs.Counts.{bears_kind}
use Rattle.rolling_audit.proofs.trace.Trace.bears.Goals as goal

pub returns-clause-law : goal.returns-clause-law
returns-clause-law c = λ h. bears_kind c.args.self.now c.args.kind (subst IsTrue c.is_faultless.ensures h)
