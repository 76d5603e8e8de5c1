use Rattle.std.proofs.Common.{◌++◌, List, Option, sym, ap, subst, ◌∙◌}
use Rattle.mux_model.specs.World.{Hand, numbered}
use Rattle.mux_model.specs.Events.{hand_at, without_hand}
use Rattle.core_world.specs.declared.hands.Held.{Held}
use Rattle.core_world.specs.Calls.{held_in}
use Rattle.core_world.specs.Events.{use_of, spent_by}
use Rattle.router_core.specs.Worlds.{CoreView, IsCoreOf}
use Rattle.router_core.specs.contracts.router.Core.{the_view}
use Rattle.router_core.proofs.UsingUp.{spend_lands, spend_refused}
use Rattle.router_core.proofs.router.Core.spend.Goals as goal

pub returns-in-Ok-clause-step : goal.returns-in-Ok-clause-step
returns-in-Ok-clause-step c = λ w b.
    let v = the_view c.self.inside in
    let here : IsCoreOf v w = subst (λ (x : CoreView). IsCoreOf x w) (sym c.self.view_is) b in
    let taken = c.in-Some-take_out.ensures.taken in
    let there = ap (λ (l : List Hand). hand_at c.args.hand l) (sym c.has_room-room.ensures.hands) ∙ taken.hand in
    let goes = ap (λ (o : Option Hand). spent_by (use_of c.args.by) o) there ∙ c.aim.ensures.call in
    let rest = taken.rest ∙ ap (λ (l : List Hand). without_hand c.args.hand l) c.has_room-room.ensures.hands in
    let kept = c.keep.ensures.hands ∙ ap (λ (l : List Hand). l ++ numbered c.self.inside.next_hand (held_in c.in-Ok.gave)) rest in
    spend_lands v w here (Option Held) c.args.hand (use_of c.args.by) c.aim.result c.in-Ok.gave c.use_up.new.clients.items c.use_up.new.servers.items _ _ _ goes c.in-Ok.ensures.step kept c.keep.ensures.next c.keep.ensures.note

pub returns-in-Some-held-clause-step : goal.returns-in-Some-held-clause-step
returns-in-Some-held-clause-step c = λ w b.
    let v = the_view c.self.inside in
    let here : IsCoreOf v w = subst (λ (x : CoreView). IsCoreOf x w) (sym c.self.view_is) b in
    let there = ap (λ (l : List Hand). hand_at c.args.hand l) (sym c.has_room-room.ensures.hands) ∙ c.in-Some-take_out.ensures.taken.hand in
    let goes = ap (λ (o : Option Hand). spent_by (use_of c.args.by) o) there ∙ c.aim.ensures.call in
    spend_refused v w here {X = Option Held} c.args.hand (use_of c.args.by) c.aim.result (c.in-Err.why, c.in-Err.held) c.use_up.new.clients.items c.use_up.new.servers.items goes c.in-Err.ensures.step
