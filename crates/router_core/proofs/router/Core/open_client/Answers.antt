use Rattle.std.proofs.Common.{◌≡◌, ◌++◌, ◌+◌, [], ◌∷◌, List, sym, ap, subst, ◌∙◌, length}
use Rattle.mux_history.specs.declared.session.SessionId.TheVariants.{Client}
use Rattle.mux_model.specs.Events as model
use Rattle.server_session.specs.State.{State}
use Rattle.core_world.specs.declared.events.Note.TheVariants as notes
use Rattle.core_world.proofs.Landing.{client_opens}
use Rattle.router_core.proofs.Opening.{begins_client}
use Rattle.router_core.specs.Sides.{UpAt, DownAt}
use Rattle.router_core.specs.Worlds.{CoreView, IsCoreOf, Lands}
use Rattle.router_core.specs.contracts.router.Core.{the_view}
use Rattle.router_core.proofs.router.Core.open_client.Goals as goal

pub returns-clause-step : goal.returns-clause-step
returns-clause-step c = λ w b.
    let v = the_view c.self.inside in
    let here : IsCoreOf v w = subst (λ (x : CoreView). IsCoreOf x w) (sym c.self.view_is) b in
    let s = c.in-Ok.session in
    let same : c.push_reserved.new.self.items ≡ v.clients ++ s ∷ [] = c.push_reserved.ensures.items ∙ ap (λ (l : List State). l ++ s ∷ []) c.reserve.ensures.items in
    let n : c.len.result + 1 ≡ length v.clients + 1 = ap (λ k. k + 1) (c.len.ensures ∙ c.self.inside.clients.ok.0) in
    subst (λ (l : List State). Lands w model.OpenClient (notes.Opened (Client (c.len.result + 1))) (record v { clients = l })) (sym same)
    (client_opens DownAt UpAt v w here s (λ number is d at. begins_client v.limits number (c.len.result + 1) v.boot s d (is ∙ sym n) at c.in-Ok.ensures) (Client (c.len.result + 1)) (ap Client n))
