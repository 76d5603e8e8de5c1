use Rattle.std.proofs.Common.{subst, sym}
use Rattle.hub_base.specs.Batching.{Batched}
use Rattle.hub_log.specs.Rule.{values_of}
use Rattle.hub_log.specs.Views.{May}
use Rattle.hub_places.specs.Holding.{HasClaims}
use Rattle.hub_places.specs.Sitting.{SitsDown, bare_of}
use Rattle.hub_places.proofs.LockingDown.{batch_may}
use Rattle.hub_places.proofs.Sitting.{opened_down}
use Rattle.hub_places.proofs.down.Place+KeptServerSession+B.start_all.Goals as goal

pub log-claims-requires-clause-may : goal.log-claims-requires-clause-may
log-claims-requires-clause-may g c =
    subst (λ (b : Batched). May g.B.Room.terms c.self.inside.logger.pass (λ w.
    SitsDown g.B.Room.terms c.self.inside.logger.number c.self.inside.logger.next c.start_all-result.new.slot (bare_of w) × HasClaims (values_of w) b.errands))
    (sym c.batch.view_is)
    (batch_may _ _ _ _ _ _ _ _ (opened_down c.self.invariant.0) c.requires.none c.start_all-result.ensures.took c.start_all-result.ensures.refused)
