use Rattle.core_world.specs.Events.{event_of}
use Rattle.router_core.proofs.Keeping.{still_kept}
use Rattle.router_core.proofs.Promising.{legal_of, promises_of}
use Rattle.router_core.proofs.kept.KeptCore.step.Goals as goal

pub invariant_of-self : goal.invariant_of-self
invariant_of-self c = still_kept _ _ (event_of c.args.event) c.args.event c.step.result c.step.ensures.step c.step.ensures.err c.self.invariant

pub returns-clause-step : goal.returns-clause-step
returns-clause-step c = rw (← c.self.view_is) c.step.ensures.step

pub returns-clause-led : goal.returns-clause-led
returns-clause-led c = still_kept _ _ (event_of c.args.event) c.args.event c.step.result c.step.ensures.step c.step.ensures.err c.self.invariant

pub returns-clause-legal : goal.returns-clause-legal
returns-clause-legal c = legal_of _

pub returns-clause-promises : goal.returns-clause-promises
returns-clause-promises c = promises_of _
