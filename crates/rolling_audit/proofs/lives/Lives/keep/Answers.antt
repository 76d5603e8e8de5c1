use Rattle.rolling_audit.proofs.Keeping.{keeps}
use Rattle.rolling_audit.proofs.lives.Lives.keep.Goals as goal

pub returns-clause-keeps : goal.returns-clause-keeps
returns-clause-keeps c = keeps c.args.self.now c.put.new.self c.args.name c.args.life c.put.ensures.boot c.requires.own c.put.ensures.lives
