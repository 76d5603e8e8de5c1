use Rattle.hub_steps.specs.Up.{MayKeep}
use Rattle.hub.specs.Reporting.{IsOfServer}
use Rattle.hub.proofs.Reporting.{adds_more, adds_none}
use Rattle.hub.proofs.obey.add_servers.Goals as goal

pub loop-place-init : goal.loop-place-init
loop-place-init g c = adds_none MayKeep IsOfServer _

pub loop-place-preserved : goal.loop-place-preserved
loop-place-preserved g c = adds_more MayKeep IsOfServer _ _ _ _ c.loop-place.invariant c.in_ok-add_server.ensures
