use Rattle.std.proofs.Common.{inl}
use Rattle.hub_slots.proofs.down_slot.DownSlot.end_any.Goals as goal

pub returns-clause-event : goal.returns-clause-event
returns-clause-event g c =
    let event = c.end_in.ensures.event in (_, _, inl event.0, event.1.0, event.2.0)
