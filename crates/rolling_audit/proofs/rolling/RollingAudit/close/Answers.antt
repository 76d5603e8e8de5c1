use Rattle.std.proofs.Common.{refl}
use Rattle.rolling_audit.specs.Slots.{used_in}
use Rattle.rolling_audit.specs.Taken.{life_of, trail_of}
use Rattle.rolling_audit.proofs.Closing.{bears_out, bears_out_so}
use Rattle.rolling_audit.proofs.rolling.RollingAudit.close.Goals as goal

pub returns-in-None-clause-ok : goal.returns-in-None-clause-ok
returns-in-None-clause-ok c =
    λ h hs taken. bears_out c.args.self.now.lives.boot hs (trail_of c.args.self.now) (life_of c.args.self.now.lives) (used_in c.args.self.now.lasts.items) taken (c.in-None.ensures.fine refl)

pub returns-in-None-clause-order : goal.returns-in-None-clause-order
returns-in-None-clause-order c =
    λ h hs ks taken order. bears_out_so c.args.self.now.lives.boot hs (trail_of c.args.self.now) (life_of c.args.self.now.lives) (used_in c.args.self.now.lasts.items) taken ks order (c.in-None.ensures.fine refl)
