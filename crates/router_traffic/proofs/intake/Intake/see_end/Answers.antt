use Rattle.router_traffic.specs.Handing.HandsIn.{none}
use Rattle.router_traffic.proofs.Handing.{over}
use Rattle.router_traffic.proofs.intake.Intake.see_end.Goals as goal

pub returns-then-is_closed : goal.returns-then-is_closed
returns-then-is_closed g c = over _

pub returns-else-is_closed : goal.returns-else-is_closed
returns-else-is_closed g c = none

pub returns-in_default : goal.returns-in_default
returns-in_default g c = none
