use Rattle.std.proofs.Common.{List, String, Global, subst, sym}
use Rattle.std.specs.Prelude.{IfErr}
use Rattle.hub.specs.declared.admin.AdminOrder.{AdminOrder}
use Rattle.hub.specs.Obeying.{MayFail, MayNotRoute}
use Rattle.hub.proofs.hub.Hub.order.Goals as goal

pub returns-in-Route-clause-fault : goal.returns-in-Route-clause-fault
returns-in-Route-clause-fault g c =
    let known = c.args.self.now.servers.items in
    subst (λ (order : AdminOrder). IfErr c.route.result (MayFail known order c.args.seat.now)) (sym c.in-Route.is)
    (subst (λ (names : List (String Global)). IfErr c.route.result (MayNotRoute known names))
    c.as_slice-in-Route.ensures.value c.route.ensures.fault)
