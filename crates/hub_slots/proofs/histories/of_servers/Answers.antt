use Rattle.std.proofs.Common.{List, sym, subst, rules}
use Rattle.std.proofs.lemmas.List.Elements.{All-weaker}
use Rattle.mux_history.specs.Log.{Log}
use Rattle.hub_slots.specs.Histories.{HasNoUp, IsKeptUp, AreOfOne}
use Rattle.hub_slots.proofs.OfOne.{are_of_one}
use Rattle.hub_slots.proofs.histories.of_servers.Goals as goal

pub loop-slot-init : goal.loop-slot-init
loop-slot-init g c = (
  c.requires.0,
  All-weaker HasNoUp IsKeptUp (λ d h. subst (λ (hs : List Log). AreOfOne hs) (sym h) tt) _ c.requires.1,
)

pub put_server-requires : goal.put_server-requires
put_server-requires g c = (
  search rules,
  c.loop-slot.invariant.1,
  are_of_one _ c.into_histories.ensures.kept c.into_histories.ensures.whole,
)
