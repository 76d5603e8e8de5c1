use Rattle.router_traffic.specs.Handing.HandsIn.{none, goes}
use Rattle.router_traffic.proofs.intake.Intake.take_ended.Goals as goal

pub returns-in-Some : goal.returns-in-Some
returns-in-Some g c = goes none _ _ c.in-Some.is c.take_ended.ensures

pub returns-in_default : goal.returns-in_default
returns-in_default g c = none
