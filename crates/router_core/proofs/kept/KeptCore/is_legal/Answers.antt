use Rattle.router_core.proofs.Promising.{legal_of, promises_of}
use Rattle.router_core.proofs.kept.KeptCore.is_legal.Goals as goal

pub returns-clause-led : goal.returns-clause-led
returns-clause-led c = rw (← c.self.view_is) c.self.invariant

pub returns-clause-legal : goal.returns-clause-legal
returns-clause-legal c = legal_of _

pub returns-clause-promises : goal.returns-clause-promises
returns-clause-promises c = promises_of _
