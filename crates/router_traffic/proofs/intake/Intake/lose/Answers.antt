use Rattle.router_traffic.proofs.Handing.{lost}
use Rattle.router_traffic.proofs.intake.Intake.lose.Goals as goal

pub returns : goal.returns
returns g c = lost _
