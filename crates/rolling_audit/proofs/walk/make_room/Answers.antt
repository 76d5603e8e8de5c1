use Rattle.std.proofs.Common.{refl}
use Rattle.rolling_audit.specs.Taken.{life_of}
use Rattle.rolling_audit.proofs.Taking.{takes_still}
use Rattle.rolling_audit.proofs.walk.make_room.Goals as goal

pub returns-in_err-make_room-clause-same : goal.returns-in_err-make_room-clause-same
returns-in_err-make_room-clause-same c =
    takes_still c.args.lives.now.boot c.args.id c.args.trail.now c.make_room.new.self (life_of c.args.lives.now) (life_of c.args.lives.now) c.make_room.ensures.same (λ n. refl)

pub returns-clause-same : goal.returns-clause-same
returns-clause-same c =
    takes_still c.args.lives.now.boot c.args.id c.args.trail.now c.make_room.new.self (life_of c.args.lives.now) (life_of c.make_room-2.new.self) c.make_room.ensures.same c.make_room-2.ensures.same
