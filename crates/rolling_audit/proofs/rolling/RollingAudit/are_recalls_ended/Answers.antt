use Rattle.rolling_audit.specs.Slots.{used_in}
use Rattle.rolling_audit.specs.Taken.{life_of, trail_of}
use Rattle.rolling_audit.proofs.Closing.{recall_lacks, recalls_end_so}
use Rattle.rolling_audit.proofs.rolling.RollingAudit.are_recalls_ended.Goals as goal

pub returns-clause-yes : goal.returns-clause-yes
returns-clause-yes c =
    λ h hs ks taken order. recalls_end_so c.args.self.now.lives.boot hs (trail_of c.args.self.now) (life_of c.args.self.now.lives) (used_in c.args.self.now.lasts.items) taken ks order (c.are_ended.ensures.yes h)

pub returns-clause-no : goal.returns-clause-no
returns-clause-no c =
    λ h fine hs taken. recall_lacks c.args.self.now.lives.boot hs (trail_of c.args.self.now) (life_of c.args.self.now.lives) (used_in c.args.self.now.lasts.items) taken fine (c.are_ended.ensures.no h)
