use Rattle.std.proofs.Common.{inr, refl}
use Rattle.hub.proofs.run.end.Goals as goal

pub returns-in-Err-clause-err : goal.returns-in-Err-clause-err
returns-in-Err-clause-err c = inr (c.take_rests.new.audit, c.in_ok-take_rests.ensures.ok refl, c.in-Err.ensures.err)
