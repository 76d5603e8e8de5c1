use Rattle.std.proofs.Common.{List, sym, subst, rules}
use Rattle.std.proofs.lemmas.List.Elements.{All-weaker}
use Rattle.mux_history.specs.Log.{Log}
use Rattle.hub_slots.specs.Histories.{HasNoDown, IsKeptDown, AreOfOneDown}
use Rattle.hub_slots.proofs.OfOne.{are_of_one_down}
use Rattle.hub_slots.proofs.histories.of_clients.Goals as goal

pub loop-slot-init : goal.loop-slot-init
loop-slot-init g c = (
  c.requires.0,
  All-weaker HasNoDown IsKeptDown (λ d h. subst (λ (hs : List Log). AreOfOneDown hs) (sym h) tt) _ c.requires.1,
)

pub put_client-requires : goal.put_client-requires
put_client-requires g c = (
  search rules,
  c.loop-slot.invariant.1,
  are_of_one_down _ c.into_histories-epochs.ensures.kept c.into_histories-epochs.ensures.whole,
)
