use Rattle.std.proofs.Common.{refl}
use Rattle.mux_model.specs.Steps.{RetireCall}
use Rattle.router_core.proofs.Leading.{note_ok, note_err}
use Rattle.router_core.proofs.servers.retire.Goals as goal

pub returns-in-Ok-clause-step : goal.returns-in-Ok-clause-step
returns-in-Ok-clause-step c = note_ok _ _ (RetireCall c.args.now) _ _ c.in-Ok.is (λ s past. tt) (λ e. refl) c.retire.ensures.step _ c.nothing.ensures

pub returns-in-Err-clause-step : goal.returns-in-Err-clause-step
returns-in-Err-clause-step c = note_err _ _ (RetireCall c.args.now) _ c.in-Err.why c.in-Err.is c.retire.ensures.step _ c.of_step.ensures
