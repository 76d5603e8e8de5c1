use Rattle.rolling_audit.specs.Lives.{is_ended_life}
use Rattle.rolling_audit.proofs.Closing.{each_passed, passes_next, some_fails}
use Rattle.rolling_audit.proofs.lives.Lives.are_ended.Goals as goal

pub loop-place-preserved : goal.loop-place-preserved
loop-place-preserved c =
    passes_next is_ended_life c.args.self.now.lives.entries c.loop-place.place c.loop-place.invariant (c.is_ended_at.ensures.yes c.if-not-is_ended_at.false)

pub returns-then-not-is_ended_at-clause-no : goal.returns-then-not-is_ended_at-clause-no
returns-then-not-is_ended_at-clause-no c =
    λ h. some_fails is_ended_life c.args.self.now c.loop-place.place c.len-place-end.ensures.unique (c.is_ended_at.ensures.no c.if-not-is_ended_at.true)

pub returns-clause-yes : goal.returns-clause-yes
returns-clause-yes c =
    λ h. each_passed is_ended_life c.args.self.now c.len-place-end.result c.loop-place.place c.len-place-end.ensures.len c.loop-place-test.false c.loop-place.invariant
