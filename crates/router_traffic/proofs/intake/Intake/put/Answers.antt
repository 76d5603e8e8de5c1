use Rattle.std.proofs.Common.{ap}
use Rattle.router_traffic.specs.Handing.{waits_in}
use Rattle.router_traffic.specs.HandingLaws.{nothing}
use Rattle.router_traffic.proofs.Handing.{all_came}
use Rattle.router_traffic.proofs.intake.Intake.put.Goals as goal

pub returns-in-Some-clause-frames : goal.returns-in-Some-clause-frames
returns-in-Some-clause-frames g c = all_came _ _ _ _ (ap waits_in c.in-Some.is) c.push.ensures.came

pub returns-in-None-clause-frames : goal.returns-in-None-clause-frames
returns-in-None-clause-frames g c = nothing _
