use Rattle.rolling_audit.proofs.Turned.{sets_by}
use Rattle.rolling_audit.proofs.turns.Turns.set.Goals as goal

pub returns : goal.returns
returns c = sets_by c.args.self.now c.put.new.self c.args.session c.args.next c.put.ensures c.requires
