use Rattle.std.proofs.Common.{subst}
use Rattle.hub_places.specs.Numbering.{KeepsDown}
use Rattle.hub_slots.proofs.down_slot.DownSlot.end_epoch.Goals as goal

pub returns-clause-event : goal.returns-clause-event
returns-clause-event g c =
    let event = c.end_in.ensures.event in (
      _,
      _,
      event.0,
      subst (λ n. KeepsDown n c.of.result.now.session) c.of.ensures.number event.1,
      subst (λ n. KeepsDown n c.end_in.new.place.session) c.of.ensures.number event.2,
    )
