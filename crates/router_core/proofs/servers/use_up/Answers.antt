use Rattle.std.proofs.Common.{List, sym, ◌∙◌, ap}
use Rattle.std.specs.Prelude.{is_some}
use Rattle.client_session.specs.State.{State}
use Rattle.core_world.specs.Sides.{session_at}
use Rattle.router_core.proofs.Rooms.{some_at}
use Rattle.router_core.proofs.servers.use_up.Goals as goal

pub returns-then-call_grows-clause-step : goal.returns-then-call_grows-clause-step
returns-then-call_grows-clause-step c =
    let s = some_at (session_at c.args.servers.now.items c.args.number)
    (ap (λ (l : List State). is_some (session_at l c.args.number)) (sym c.deref.ensures.value) ∙ sym c.is_there.ensures ∙ c.if-not-is_there.false) in
    (s.0, s.1, sym c.call_grows.ensures ∙ c.if-call_grows.true)
