use Rattle.rolling_audit.proofs.Turned.{closes_by}
use Rattle.rolling_audit.proofs.turns.Turns.end.Goals as goal

pub returns : goal.returns
returns c = closes_by c.args.self.now c.put.new.self c.args.session c.put.ensures c.requires
