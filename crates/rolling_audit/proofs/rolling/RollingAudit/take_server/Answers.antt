use Rattle.std.proofs.Common.{refl, sym, ap}
use Rattle.std.specs.Prelude.{is_some}
use Rattle.mux_history.specs.declared.session.SessionId.TheVariants.{Server}
use Rattle.rolling_audit.specs.declared.rolling.RollingAudit.{RollingAudit}
use Rattle.rolling_audit.proofs.Opening.{left_by, takes_server}
use Rattle.rolling_audit.proofs.rolling.RollingAudit.take_server.Goals as goal

pub returns-clause-ok : goal.returns-clause-ok
returns-clause-ok c =
    let new : RollingAudit = record c.args.self.now { servers = c.get_mut.follows.lender c.walk.new.trail; lives = c.walk.new.lives } in
    λ h. takes_server c.args.self.now new c.args.server c.in-Some.trail.now c.walk.new.trail (sym c.in-Some.ensures.value)
    ((c.get_mut.follows.holds c.walk.new.trail).3 (ap is_some (sym c.in-Some.ensures.value))).0 refl refl c.walk.ensures.boot c.args.records.now (c.walk.ensures.ok h)

pub returns-clause-err : goal.returns-clause-err
returns-clause-err c =
    let new : RollingAudit = record c.args.self.now { servers = c.get_mut.follows.lender c.walk.new.trail; lives = c.walk.new.lives } in
    left_by c.walk.result c.args.self.now new (Server c.args.server) c.in-Some.trail.now c.walk.new.trail c.args.records.now (sym c.in-Some.ensures.value)
    (takes_server c.args.self.now new c.args.server c.in-Some.trail.now c.walk.new.trail (sym c.in-Some.ensures.value)
    ((c.get_mut.follows.holds c.walk.new.trail).3 (ap is_some (sym c.in-Some.ensures.value))).0 refl refl c.walk.ensures.boot)
    c.walk.ensures.err
