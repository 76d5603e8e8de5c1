use Rattle.std.proofs.Common.{◌++◌, List, Result, refl, sym, ap, subst, ◌∙◌}
use Rattle.mux_history.specs.declared.session.SessionId.TheVariants.{Client}
use Rattle.mux_model.specs.Events as model
use Rattle.mux_model.specs.World.{Hand, numbered}
use Rattle.core_world.specs.declared.calls.Gave.{Gave}
use Rattle.core_world.specs.declared.calls.ClientCall.{ClientCall}
use Rattle.core_world.specs.declared.calls.ClientCall.TheVariants as calls
use Rattle.core_world.specs.declared.refusal.EventRefusal.{EventRefusal}
use Rattle.core_world.specs.Calls.{client_call, bare_down, held_in}
use Rattle.core_world.proofs.Landing.{client_lands, client_refused}
use Rattle.router_core.specs.Sides.{UpAt, DownAt, DoesOne}
use Rattle.router_core.specs.Worlds.{CoreView, IsCoreOf}
use Rattle.router_core.specs.contracts.router.Core.{the_view}
use Rattle.router_core.proofs.router.Core.client_step.Goals as goal

pub returns-in-Ok-clause-step : goal.returns-in-Ok-clause-step
returns-in-Ok-clause-step c = λ w b.
    let v = the_view c.self.inside in
    let here : IsCoreOf v w = subst (λ (x : CoreView). IsCoreOf x w) (sym c.self.view_is) b in
    let event = model.On (Client c.args.number) (bare_down c.args.step) in
    let call = client_call (calls.Step c.args.step) in
    let kept = c.keep.ensures.hands ∙ ap (λ (l : List Hand). l ++ numbered c.self.inside.next_hand (held_in c.in-Ok.gave)) c.has_room.ensures.hands in
    let called = subst (λ (r : Result Gave (EventRefusal × ClientCall)). DoesOne DownAt c.self.inside.clients.items c.call.new.clients.items c.args.number call r) c.in-Ok.is c.call.ensures.step in
    client_lands DownAt UpAt v w here event c.args.number call c.in-Ok.gave c.call.new.clients.items _ _ _ refl called kept c.keep.ensures.next c.keep.ensures.note

pub returns-in-Err-clause-step : goal.returns-in-Err-clause-step
returns-in-Err-clause-step c = λ w b.
    let v = the_view c.self.inside in
    let here : IsCoreOf v w = subst (λ (x : CoreView). IsCoreOf x w) (sym c.self.view_is) b in
    let event = model.On (Client c.args.number) (bare_down c.args.step) in
    let call = client_call (calls.Step c.args.step) in
    let called = subst (λ (r : Result Gave (EventRefusal × ClientCall)). DoesOne DownAt c.self.inside.clients.items c.call.new.clients.items c.args.number call r) c.in-Err.is c.call.ensures.step in
    client_refused DownAt UpAt v w here event c.args.number call c.in-Err.why refl called
