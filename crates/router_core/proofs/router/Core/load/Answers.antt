use Rattle.std.proofs.Common.{List, refl, sym, ◌∙◌, ap, subst}
use Rattle.mux_history.specs.declared.session.SessionId.{SessionId}
use Rattle.mux_history.specs.declared.session.SessionId.TheVariants.{Client, Server}
use Rattle.client_session.specs.State.{State as UpState}
use Rattle.server_session.specs.State.{State as DownState}
use Rattle.router_core.specs.Sides.{UpAt, DownAt}
use Rattle.router_core.specs.Looks.{LoadOfOne, load_at}
use Rattle.router_core.specs.Worlds.{CoreView, IsCoreOf}
use Rattle.router_core.specs.contracts.router.Core.{the_view}
use Rattle.router_core.proofs.Looking.{load_is}
use Rattle.router_core.proofs.router.Core.load.Goals as goal

pub returns-in-Client : goal.returns-in-Client
returns-in-Client c = λ w b.
    let v = the_view c.self.inside in
    let here : IsCoreOf v w = subst (λ (x : CoreView). IsCoreOf x w) (sym c.self.view_is) b in
    let one = subst (λ (l : List DownState). LoadOfOne DownAt Client l c.in-Client.number c.client_load.result) c.deref.ensures.value c.client_load.ensures in
    load_is DownAt Client (λ n k. refl) w v.clients c.in-Client.number c.client_load.result here.clients one ∙ ap (λ (s : SessionId). load_at w s) (sym c.in-Client.is)

pub returns-in-Server : goal.returns-in-Server
returns-in-Server c = λ w b.
    let v = the_view c.self.inside in
    let here : IsCoreOf v w = subst (λ (x : CoreView). IsCoreOf x w) (sym c.self.view_is) b in
    let one = subst (λ (l : List UpState). LoadOfOne UpAt Server l c.in-Server.number c.server_load.result) c.deref-in-Server.ensures.value c.server_load.ensures in
    load_is UpAt Server (λ n k. refl) w v.servers c.in-Server.number c.server_load.result here.servers one ∙ ap (λ (s : SessionId). load_at w s) (sym c.in-Server.is)
