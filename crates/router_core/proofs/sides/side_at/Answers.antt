use Rattle.std.proofs.Common.{sym}
use Rattle.router_core.proofs.Listing.{found, passed, ended}
use Rattle.router_core.proofs.sides.side_at.Goals as goal

pub returns-then-is_at : goal.returns-then-is_at
returns-then-is_at c = found c.args.boot c.args.id c.args.sides.now c.loop-place.place c.index-sides-place.result c.loop-place.invariant c.loop-place-test.true c.index-sides-place.is (sym c.if-is_at.ensures)

pub loop-place-preserved : goal.loop-place-preserved
loop-place-preserved c = passed c.args.boot c.args.id c.args.sides.now c.loop-place.place c.index-sides-place.result c.loop-place.invariant c.loop-place-test.true c.index-sides-place.is (sym c.if-is_at.ensures)

pub returns : goal.returns
returns c = ended c.args.boot c.args.id c.args.sides.now c.loop-place.place c.loop-place.invariant c.loop-place.auto.place-end c.loop-place-test.false
