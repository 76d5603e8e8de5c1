use Rattle.std.proofs.Common.{refl}
use Rattle.rolling_audit.specs.Lives.{is_fine}
use Rattle.rolling_audit.proofs.Closing.{each_passed, flaw_at, passes_next}
use Rattle.rolling_audit.proofs.lives.Lives.flawed.Goals as goal

pub loop-place-preserved : goal.loop-place-preserved
loop-place-preserved c =
    passes_next is_fine c.args.self.now.lives.entries c.loop-place.place c.loop-place.invariant (c.in_default.ensures.fine refl)

pub returns-in-Some-clause-flaw : goal.returns-in-Some-clause-flaw
returns-in-Some-clause-flaw c = flaw_at c.args.self.now c.loop-place.place c.in-Some.found.0 c.in-Some.found.1 c.len-place-end.ensures.unique c.in-Some.ensures.flaw

pub returns-clause-fine : goal.returns-clause-fine
returns-clause-fine c =
    λ none. each_passed is_fine c.args.self.now c.len-place-end.result c.loop-place.place c.len-place-end.ensures.len c.loop-place-test.false c.loop-place.invariant
