use Rattle.std.proofs.Common.{subst}
use Rattle.server_session.specs.Steps.{LoseStep}
use Rattle.hub_slots.specs.Locked.{LockedDown}
use Rattle.hub_places.specs.Numbering.{KeepsDown}
use Rattle.hub.proofs.hub.Hub.lose_client.Goals as goal

pub returns-clause-event : goal.returns-clause-event
returns-clause-event g c =
    subst (λ n. LockedDown (KeepsDown n) (λ p q. LoseStep p c.args.now q) (Unit {0})) c.client-client.ensures.is
    c.lose.ensures.event
