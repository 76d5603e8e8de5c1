use Rattle.router_traffic.specs.Handing.HandsIn.{none, goes}
use Rattle.router_traffic.proofs.intake.Intake.grow.Goals as goal

pub returns-in-Some : goal.returns-in-Some
returns-in-Some g c = goes none _ _ c.in-Some.is c.grow.ensures

pub returns-in-None : goal.returns-in-None
returns-in-None g c = none
