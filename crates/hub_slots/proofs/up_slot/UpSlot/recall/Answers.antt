use Rattle.std.proofs.Common.{subst}
use Rattle.hub_places.specs.Numbering.{KeepsUp}
use Rattle.hub_slots.proofs.up_slot.UpSlot.recall.Goals as goal

pub returns-clause-event : goal.returns-clause-event
returns-clause-event g c = (
  _,
  _,
  c.recall-result.ensures.event,
  c.recall-result.ensures.none,
  subst (λ n. KeepsUp n c.of-place.result.now.session) c.server-server.ensures c.kept.ensures,
  subst (λ n. KeepsUp n c.recall-result.new.self.session) c.server-server.ensures c.kept-2.ensures,
)
