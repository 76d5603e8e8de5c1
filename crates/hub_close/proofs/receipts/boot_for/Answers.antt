use Rattle.std.proofs.Common.{arith}
use Rattle.hub_close.proofs.Lists.{stubs_of_marks}
use Rattle.hub_close.proofs.receipts.boot_for.Goals as goal

pub returns-in-Some : goal.returns-in-Some
returns-in-Some c = stubs_of_marks c.in-Some.name.boot c.args.boot c.args.packed.now c.args.whole.now (omega (arith, c.requires, c.if-packed-whole.false))
