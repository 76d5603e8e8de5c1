-- Orders and their answers.
use Rattle.std.specs.Prelude.{List, Result}
use Rattle.hub.specs.declared.admin.AdminOrder.{AdminOrder}
use Rattle.hub.specs.declared.admin.AdminReply.{AdminReply}
use Rattle.hub.specs.declared.admin.OrderFault.{OrderFault}

-- the orders that were carried out, each with its answer
abbrev pub Obeyed : Type 0
Obeyed = List (AdminOrder × Result AdminReply OrderFault)

-- the type of `obeys`: a state, the orders that were given and the answers, and the state after
abbrev pub Serves : Type 0 → Type 1
Serves O = O → Obeyed → O → Type 0
