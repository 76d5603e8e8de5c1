use Rattle.router_traffic.proofs.Handing.{opened, over}
use Rattle.router_traffic.proofs.intake.Intake.open.Goals as goal

pub returns-in_default : goal.returns-in_default
returns-in_default g c = over _

pub returns : goal.returns
returns g c = opened _ _ _ c.requires c.put.ensures
