use Rattle.std.proofs.Common.{◌≡◌, Some, sym, subst, ◌∙◌}
use Rattle.mux_model.specs.Events.{hand_at}
use Rattle.core_world.specs.declared.events.Event.{Event}
use Rattle.core_world.specs.Events.{call_in, event_of, use_of}
use Rattle.router_core.proofs.Seeing.{hand_goes}
use Rattle.router_core.proofs.meeting.session_of.Goals as goal

pub returns-in-Some : goal.returns-in-Some
returns-in-Some c = λ a e.
    let hands = c.args.core.now.hands in
    c.goes_to.ensures
    ∙ hand_goes (hand_at c.in-Spend.hand hands) c.in-Some.hand (use_of c.in-Spend.by) a (sym c.hand.ensures ∙ c.in-Some.is) (subst (λ (ev : Event). call_in hands (event_of ev) ≡ Some a) c.in-Spend.is e)
