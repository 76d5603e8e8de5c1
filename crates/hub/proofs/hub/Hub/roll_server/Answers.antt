use Rattle.std.proofs.Common.{subst}
use Rattle.hub_places.specs.Numbering.{KeepsUp}
use Rattle.hub.proofs.hub.Hub.roll_server.Goals as goal

pub returns-clause-event : goal.returns-clause-event
returns-clause-event g c =
    let event = c.end_epoch-result.ensures.event in (
      event.0,
      event.1,
      event.2,
      subst (λ n. KeepsUp n event.0) c.server-server.ensures.is event.3,
      subst (λ n. KeepsUp n event.1) c.server-server.ensures.is event.4,
    )
