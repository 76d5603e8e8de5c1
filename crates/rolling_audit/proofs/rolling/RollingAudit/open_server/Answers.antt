use Rattle.std.proofs.Common.{refl, sym, ◌∙◌}
use Rattle.rolling_audit.proofs.Opening.{on_err, rests_server}
use Rattle.rolling_audit.proofs.rolling.RollingAudit.open_server.Goals as goal

pub returns-then-is_err-clause-err : goal.returns-then-is_err-clause-err
returns-then-is_err-clause-err c =
    λ h. rests_server c.args.self.now (record c.args.self.now { servers = c.insert.new.self }) (on_err c.insert.result _ c.insert.ensures.err (sym c.is_err.ensures.value ∙ c.if-is_err.true)) refl refl
