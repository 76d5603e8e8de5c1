use Rattle.router_traffic.proofs.Handing.{over}
use Rattle.router_traffic.proofs.intake.Intake.end.Goals as goal

pub returns : goal.returns
returns g c = over _
