use Rattle.hub_slots.proofs.up_slot.UpSlot.clock.Goals as goal

pub returns-clause-event : goal.returns-clause-event
returns-clause-event g c = (_, _, c.clock-result.ensures.event, c.clock-result.ensures.none, c.kept.ensures.0, c.kept-2.ensures.0)
