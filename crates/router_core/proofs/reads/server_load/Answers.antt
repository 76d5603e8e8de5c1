use Rattle.std.proofs.Common.{◌∙◌, ap, sym, ltb-true}
use Rattle.router_core.specs.Sides.{up_past}
use Rattle.router_core.specs.Looks.{capped}
use Rattle.core_world.proofs.Calling.{at_number}
use Rattle.router_core.proofs.reads.server_load.Goals as goal

pub returns : goal.returns
returns c = (
  c.in-Some.session.now,
  at_number c.args.servers.now c.args.number c.in-Some.session.now c.if-number-eq0.false (ltb-true _ _ (sym c.in-Some.ensures.lookup.0)) c.in-Some.ensures.lookup.1,
  λ limits d b. c.capped.ensures ∙ ap capped (c.load.ensures.told (up_past limits c.args.number d b.out) b.belongs),
)
