use Rattle.std.proofs.Common.{subst}
use Rattle.client_session.specs.Steps.{LoseStep}
use Rattle.hub_slots.specs.Locked.{LockedUp}
use Rattle.hub_places.specs.Numbering.{KeepsUp}
use Rattle.hub.proofs.hub.Hub.lose_server.Goals as goal

pub returns-clause-event : goal.returns-clause-event
returns-clause-event g c =
    subst (λ n. LockedUp (KeepsUp n) (λ p q. LoseStep p c.args.now q) (Unit {0})) c.server-server.ensures.is
    c.lose.ensures.event
