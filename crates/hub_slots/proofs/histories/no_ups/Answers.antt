use Rattle.std.proofs.Common.{rules}
use Rattle.std.proofs.lemmas.List.Elements.{All-push, All-same}
use Rattle.hub_slots.specs.Histories.{HasNoUp}
use Rattle.hub_slots.proofs.histories.no_ups.Goals as goal

pub loop-place-preserved : goal.loop-place-preserved
loop-place-preserved c = (
  search rules,
  search rules,
  All-same HasNoUp _ _ c.push_reserved.ensures.items (All-push HasNoUp _ _ c.loop-place.invariant.2 (search rules)),
)
