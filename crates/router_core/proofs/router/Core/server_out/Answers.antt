use Rattle.std.proofs.Common.{Option, sym, subst}
use Rattle.mux_frame.specs.Views.{FrameView}
use Rattle.core_world.specs.Sides.{TakesFromOne}
use Rattle.core_world.proofs.Landing.{server_out_lands}
use Rattle.router_core.specs.Sides.{UpAt, DownAt}
use Rattle.router_core.specs.Worlds.{CoreView, IsCoreOf}
use Rattle.router_core.specs.contracts.router.Core.{the_view}
use Rattle.router_core.proofs.router.Core.server_out.Goals as goal

pub returns-clause-step : goal.returns-clause-step
returns-clause-step c = λ w b.
    let v = the_view c.self.inside in
    let here : IsCoreOf v w = subst (λ (x : CoreView). IsCoreOf x w) (sym c.self.view_is) b in
    let m = subst (λ (r : Option (Option FrameView)). TakesFromOne UpAt c.self.inside.servers.items c.take_out.new.servers.items c.args.number r) c.in-Some.is c.take_out.ensures in
    server_out_lands DownAt UpAt v w here c.args.number c.in-Some.frame c.take_out.new.servers.items m.0 m.1 m.2 m.3 m.4
