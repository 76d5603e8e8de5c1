use Rattle.std.proofs.Common.{ap, ◌∙◌}
use Rattle.hub_places.specs.Seating.{Seating}
use Rattle.hub_places.proofs.LockingDown.{take_outs_at}
use Rattle.hub_places.proofs.Sitting.{opened_down}
use Rattle.hub_places.proofs.down.Place+KeptServerSession+B.take_outs.Goals as goal

pub log-known-requires-clause-may : goal.log-known-requires-clause-may
log-known-requires-clause-may g c =
    take_outs_at c.args.client _ _ _ _ _ _ (ap (λ (s : Seating _). s.number) c.self.view_is ∙ c.requires.number) (opened_down c.self.invariant.0) c.if-is_none.ensures c.take_outs-came.ensures.event
