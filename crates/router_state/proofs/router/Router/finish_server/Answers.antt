use Rattle.std.proofs.Common.{ap, option_map, subst, sym, true}
use Rattle.mux_history.specs.declared.session.SessionId.TheVariants.{Server}
use Rattle.router_state.specs.Giving.{AreTheLast, FinishedBy}
use Rattle.router_state.specs.declared.given.Given.{Given}
use Rattle.router_state.proofs.router.Router.finish_server.Goals as goal

pub returns : goal.returns
returns g c =
    let n = c.args.seat.now.number in
    subst (λ (x : Given). AreTheLast (Server n) x) (sym c.last.ensures)
    (record {
      left = subst (λ r. FinishedBy (Server n) (option_map (λ p. (p.0, p.1.items)) r)) c.in_ok-first.was c.finish_server.ensures;
      is = ap (λ m. record {
        session = Server m;
        first = c.in_ok-first.first;
        histories = c.in_ok-first.histories;
        is_all = true;
        seen = 0;
      }) c.server.ensures.is;
    })
