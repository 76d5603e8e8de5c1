use Rattle.std.proofs.Common.{refl}
use Rattle.mux_model.specs.Steps.{PingCall}
use Rattle.router_core.proofs.Leading.{ping_ok, ping_err}
use Rattle.router_core.proofs.servers.ping.Goals as goal

pub returns-in-Ok-clause-step : goal.returns-in-Ok-clause-step
returns-in-Ok-clause-step c = ping_ok _ _ (PingCall c.args.now) _ _ c.in-Ok.is (λ s past. tt) (λ e. refl) c.ping.ensures.step _ c.nothing.ensures

pub returns-in-Err-clause-step : goal.returns-in-Err-clause-step
returns-in-Err-clause-step c = ping_err _ _ (PingCall c.args.now) _ c.in-Err.why c.in-Err.is c.ping.ensures.step _ c.of_ping.ensures
