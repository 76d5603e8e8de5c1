use Rattle.std.proofs.Common.{[], sym, subst}
use Rattle.mux_model.specs.World.{start}
use Rattle.core_world.proofs.Landing.{core_starts}
use Rattle.router_core.specs.Sides.{UpAt, DownAt}
use Rattle.router_core.specs.Worlds.{CoreView, IsCoreOf}
use Rattle.router_core.proofs.kept.KeptCore.open.Goals as goal

pub invariant_of-result : goal.invariant_of-result
invariant_of-result c = (
  c.args.config.limits,
  c.args.config.boot,
  [],
  tt,
  subst (λ (v : CoreView). IsCoreOf v (start c.args.config.limits c.args.config.boot)) (sym c.open.ensures) (core_starts DownAt UpAt c.args.config.limits c.args.config.boot),
)
