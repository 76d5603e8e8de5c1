use Rattle.std.proofs.Common.{◌≡◌}
use Rattle.router_state.specs.Giving.{Looks}
use Rattle.router_state.proofs.given.Given.look.Given as goal

abbrev pub invariant-loop-at : goal.invariant-loop-at
invariant-loop-at l =
    Looks l.initial.self l.initial.audit l.at l.audit × (l.self ≡ record l.initial.self { seen = l.at })
