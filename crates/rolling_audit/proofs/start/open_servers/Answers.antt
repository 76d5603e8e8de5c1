use Rattle.std.proofs.Common.{refl, ◌∙◌, ap}
use Rattle.rolling_audit.proofs.Opened.{opened_all, opened_more, opened_none}
use Rattle.rolling_audit.proofs.start.open_servers.Goals as goal

pub loop-server-init : goal.loop-server-init
loop-server-init c = (opened_none c.args.modes.now c.args.slots c.in_ok-audit.audit c.in_ok-audit.ensures.taken c.in_ok-audit.ensures.lasts, c.in_ok-audit.ensures.boot)

pub loop-server-preserved : goal.loop-server-preserved
loop-server-preserved c = (
  opened_more c.args.modes.now c.args.slots c.loop-server.server _ c.loop-server.audit c.open.new.self c.loop-server-test.true c.loop-server.invariant.0
      (c.in-Ok.ensures.trails refl) (c.in-Ok.ensures.lasts refl) (c.in-Ok.ensures.ok refl),
  ap (λ l. l.boot) c.in-Ok.ensures.lives ∙ c.loop-server.invariant.1,
)

pub returns-clause-taken : goal.returns-clause-taken
returns-clause-taken c = (opened_all c.args.modes.now c.args.slots c.loop-server.server c.loop-server.audit c.loop-server-test.false c.loop-server.invariant.0).0

pub returns-clause-open : goal.returns-clause-open
returns-clause-open c = (opened_all c.args.modes.now c.args.slots c.loop-server.server c.loop-server.audit c.loop-server-test.false c.loop-server.invariant.0).1
