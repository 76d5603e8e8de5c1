use Rattle.std.proofs.Common.{◌≡◌, length}
use Rattle.std.specs.Prelude.{All}
use Rattle.router_state.specs.Counted.{IsNothing}
use Rattle.router_state.proofs.kinds.Kinds.none.Given as goal

abbrev pub invariant-loop : goal.invariant-loop
invariant-loop l = (length l.by_server.items ≡ l.counter) × All IsNothing l.by_server.items
