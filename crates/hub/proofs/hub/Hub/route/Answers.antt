use Rattle.std.proofs.Common.{List, subst}
use Rattle.hub.specs.declared.hub.Known.{Known}
use Rattle.hub.specs.Obeying.{MayNotRoute}
use Rattle.hub.proofs.hub.Hub.route.Goals as goal

pub returns-in-Err-clause-fault : goal.returns-in-Err-clause-fault
returns-in-Err-clause-fault g c =
    subst (λ (known : List Known). MayNotRoute known c.args.names.now c.in-Err.fault)
    c.as_slice.ensures.value c.in-Err.ensures.fault
