use Rattle.std.proofs.Common.{subst}
use Rattle.mux_history.specs.declared.name.Name.{Name}
use Rattle.hub_places.specs.Numbering.{KeepsDown}
use Rattle.hub_slots.proofs.down_slot.DownSlot.fail.Goals as goal

pub returns-clause-event : goal.returns-clause-event
returns-clause-event g c = (
  _,
  _,
  c.fail-result.ensures.event,
  c.fail-result.ensures.none,
  subst (λ (n : Name). KeepsDown n.client c.of-place.result.now.session) c.name-client.ensures c.kept.ensures,
  subst (λ (n : Name). KeepsDown n.client c.fail-result.new.self.session) c.name-client.ensures c.kept-2.ensures,
)
