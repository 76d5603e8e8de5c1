use Rattle.std.proofs.Common.{ap, sym, ◌∙◌}
use Rattle.router_traffic.specs.Handing.{waits_in}
use Rattle.router_traffic.specs.Handing.HandsIn.{none}
use Rattle.router_traffic.proofs.Handing.{waits_same}
use Rattle.router_traffic.proofs.intake.Intake.ring.Goals as goal

pub returns-in-Some : goal.returns-in-Some
returns-in-Some g c = waits_same _ _ (ap waits_in c.in-Some.is ∙ sym c.ring.ensures)

pub returns-in_default : goal.returns-in_default
returns-in_default g c = none
