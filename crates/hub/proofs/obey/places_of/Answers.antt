use Rattle.std.proofs.Common.{rules, arith}
use Rattle.hub.proofs.obey.places_of.Goals as goal

pub returns-in_default-clause-fault : goal.returns-in_default-clause-fault
returns-in_default-clause-fault c =
    (omega arith, (c.name-item.result, (c.loop-name.name-index, c.loop-name-test.true, search rules), search rules))
