use Rattle.std.proofs.Common.{ap, ◌∙◌}
use Rattle.hub_places.specs.Seating.{Seating}
use Rattle.hub_places.proofs.LockingUp.{take_outs_at}
use Rattle.hub_places.proofs.Sitting.{opened_up}
use Rattle.hub_places.proofs.up.Place+KeptClientSession+B.take_outs.Goals as goal

pub log-known-requires-clause-may : goal.log-known-requires-clause-may
log-known-requires-clause-may g c =
    take_outs_at c.args.server _ _ _ _ _ _ (ap (λ (s : Seating _). s.number) c.self.view_is ∙ c.requires.number) (opened_up c.self.invariant.0) c.if-is_none.ensures c.take_outs-came.ensures.event
