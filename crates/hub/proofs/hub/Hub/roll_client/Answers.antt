use Rattle.std.proofs.Common.{subst}
use Rattle.hub_places.specs.Numbering.{KeepsDown}
use Rattle.hub.proofs.hub.Hub.roll_client.Goals as goal

pub returns-clause-event : goal.returns-clause-event
returns-clause-event g c =
    let event = c.end_epoch-result.ensures.event in (
      event.0,
      event.1,
      event.2,
      subst (λ n. KeepsDown n event.0) c.client-client.ensures.is event.3,
      subst (λ n. KeepsDown n event.1) c.client-client.ensures.is event.4,
    )
