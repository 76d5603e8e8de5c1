use Rattle.std.proofs.Common.{List, None, subst, sym}
use Rattle.hub_base.specs.Batching.{Batched}
use Rattle.hub_base.specs.declared.errands.Errand.{Errand}
use Rattle.hub_places.specs.Holding.{HasClaims}
use Rattle.hub_steps.specs.Batches.{ServesUp}
use Rattle.hub_steps.specs.Batches as batches
use Rattle.hub_delivery.proofs.Claims.{refused_claims}
use Rattle.hub_delivery.proofs.carry.refuse_backlogged.Goals as goal

pub returns-then-is_backlogged-clause-claims : goal.returns-then-is_backlogged-clause-claims
returns-then-is_backlogged-clause-claims g c = λ v has.
    refused_claims v c.args.now c.args.server c.batch.inside.errands.items c.refuse_all.new.errands.items c.refuse_all.ensures.event
    (subst (λ (b : Batched). HasClaims v b.errands) (sym c.batch.view_is) has)

pub returns-else-is_backlogged-clause-event : goal.returns-else-is_backlogged-clause-event
returns-else-is_backlogged-clause-event g c = batches.ServesUp.none
