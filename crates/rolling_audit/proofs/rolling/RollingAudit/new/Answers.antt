use Rattle.std.proofs.Common.{ap, ◌≡◌, None}
use Rattle.std.specs.Prelude.{nat_eq}
use Rattle.std.specs.Map.{lookup}
use Rattle.mux_history.specs.declared.session.SessionId.{SessionId}
use Rattle.mux_history.specs.declared.session.SessionId.TheVariants.{Client, Server}
use Rattle.rolling_audit.specs.declared.rolling.RollingAudit.{RollingAudit}
use Rattle.rolling_audit.specs.Slots.{used_in}
use Rattle.rolling_audit.specs.Taken.{life_of, trail_of}
use Rattle.rolling_audit.proofs.Taking.{taken_none}
use Rattle.rolling_audit.proofs.rolling.RollingAudit.new.Goals as goal

pub returns-clause-taken : goal.returns-clause-taken
returns-clause-taken c = taken_none c.of.result.boot (trail_of new) (life_of c.of.result) (used_in new.lasts.items) none c.of.ensures.none
  where
    new : RollingAudit
    new = record { alloc = c.args.alloc; lasts = c.in_ok-lasts.lasts; clients = c.new.result; servers = c.new-2.result; lives = c.of.result }

    none : (id : SessionId) → trail_of new id ≡ None
    none (Client k) = ap (lookup (nat_eq k)) c.new.ensures.empty
    none (Server k) = ap (lookup (nat_eq k)) c.new-2.ensures.empty
