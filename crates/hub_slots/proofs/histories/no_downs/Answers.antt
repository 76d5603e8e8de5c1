use Rattle.std.proofs.Common.{rules}
use Rattle.std.proofs.lemmas.List.Elements.{All-push, All-same}
use Rattle.hub_slots.specs.Histories.{HasNoDown}
use Rattle.hub_slots.proofs.histories.no_downs.Goals as goal

pub loop-place-preserved : goal.loop-place-preserved
loop-place-preserved c = (
  search rules,
  search rules,
  All-same HasNoDown _ _ c.push_reserved.ensures.items (All-push HasNoDown _ _ c.loop-place.invariant.2 (search rules)),
)
