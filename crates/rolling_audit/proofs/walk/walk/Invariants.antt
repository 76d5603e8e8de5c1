use Rattle.std.proofs.Common.{take, ◌≡◌}
use Rattle.rolling_audit.specs.Steps.{Takes}
use Rattle.rolling_audit.specs.Taken.{life_of}
use Rattle.rolling_audit.proofs.walk.walk.Given as goal

abbrev pub invariant-loop-taken : goal.invariant-loop-taken
invariant-loop-taken l =
    record {
      takes : Takes l.fn.lives.boot l.id l.fn.trail (life_of l.fn.lives) (take l.taken l.records) l.trail (life_of l.lives);
      boot : l.lives.boot ≡ l.fn.lives.boot;
    }
