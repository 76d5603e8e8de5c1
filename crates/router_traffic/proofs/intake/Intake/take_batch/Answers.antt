use Rattle.std.proofs.Common.{ap, sym, ◌∙◌}
use Rattle.hub_base.specs.Batching.{Batched}
use Rattle.router_traffic.specs.Handing.{waits_in}
use Rattle.router_traffic.specs.HandingLaws.{nothing}
use Rattle.router_traffic.proofs.Handing.{waits_same}
use Rattle.router_traffic.proofs.intake.Intake.take_batch.Goals as goal

pub returns-in-Ok : goal.returns-in-Ok
returns-in-Ok g c =
    waits_same _ _ (ap waits_in c.requires ∙ sym (ap waits_in c.put.ensures ∙ ap (λ (b : Batched). b.frames) c.in-Ok.ensures))

pub returns-in_default : goal.returns-in_default
returns-in_default g c = nothing _

pub returns-in_default-take : goal.returns-in_default-take
returns-in_default-take g c = nothing _
