use Rattle.mux_history.proofs.Counting.{counts-append}
use Rattle.rolling_audit.proofs.run.RunAudit.note.Goals as goal

pub returns-clause-counts : goal.returns-clause-counts
returns-clause-counts c =
    λ all is. counts-append c.args.self.now.counts c.of.result c.plus-self.result all c.args.taken.now is c.of.ensures c.plus-self.ensures
