use Rattle.std.proofs.Common.{◌≡◌, ◌++◌, ◌+◌, [], ◌∷◌, List, sym, ap, subst, ◌∙◌, length}
use Rattle.mux_history.specs.declared.session.SessionId.TheVariants.{Server}
use Rattle.mux_model.specs.Events as model
use Rattle.client_session.specs.State.{State}
use Rattle.core_world.specs.declared.events.Note.TheVariants as notes
use Rattle.core_world.proofs.Landing.{server_opens}
use Rattle.router_core.proofs.Opening.{begins_server}
use Rattle.router_core.specs.Sides.{UpAt, DownAt}
use Rattle.router_core.specs.Worlds.{CoreView, IsCoreOf, Lands}
use Rattle.router_core.specs.contracts.router.Core.{the_view}
use Rattle.router_core.proofs.router.Core.open_server.Goals as goal

pub returns-clause-step : goal.returns-clause-step
returns-clause-step c = λ w b.
    let v = the_view c.self.inside in
    let here : IsCoreOf v w = subst (λ (x : CoreView). IsCoreOf x w) (sym c.self.view_is) b in
    let s = c.in-Ok.session in
    let same : c.push_reserved.new.self.items ≡ v.servers ++ s ∷ [] = c.push_reserved.ensures.items ∙ ap (λ (l : List State). l ++ s ∷ []) c.reserve.ensures.items in
    let n : c.len.result + 1 ≡ length v.servers + 1 = ap (λ k. k + 1) (c.len.ensures ∙ c.self.inside.servers.ok.0) in
    subst (λ (l : List State). Lands w (model.OpenServer c.args.mode) (notes.Opened (Server (c.len.result + 1))) (record v { servers = l })) (sym same)
    (server_opens DownAt UpAt v w here c.args.mode s (λ number is d at. begins_server v.limits number (c.len.result + 1) v.boot c.args.mode s d (is ∙ sym n) at c.in-Ok.ensures) (Server (c.len.result + 1)) (ap Server n))
