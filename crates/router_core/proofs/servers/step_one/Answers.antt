use Rattle.std.proofs.Common.{sym, subst}
use Rattle.core_world.specs.Calls.{server_call}
use Rattle.core_world.specs.declared.calls.ServerCall.TheVariants as calls
use Rattle.router_core.specs.Sides.{UpAt, Does}
use Rattle.router_core.proofs.servers.step_one.Goals as goal

pub returns-in-Frame-clause-step : goal.returns-in-Frame-clause-step
returns-in-Frame-clause-step c = subst (λ x. Does UpAt c.args.session.now c.frame.new.session (server_call (calls.Step x)) c.frame.result) (sym c.in-Frame.is) c.frame.ensures.step

pub returns-in-Clock-clause-step : goal.returns-in-Clock-clause-step
returns-in-Clock-clause-step c = subst (λ x. Does UpAt c.args.session.now c.clock.new.session (server_call (calls.Step x)) c.clock.result) (sym c.in-Clock.is) c.clock.ensures.step

pub returns-in-Ping-clause-step : goal.returns-in-Ping-clause-step
returns-in-Ping-clause-step c = subst (λ x. Does UpAt c.args.session.now c.ping.new.session (server_call (calls.Step x)) c.ping.result) (sym c.in-Ping.is) c.ping.ensures.step

pub returns-in-Retire-clause-step : goal.returns-in-Retire-clause-step
returns-in-Retire-clause-step c = subst (λ x. Does UpAt c.args.session.now c.retire.new.session (server_call (calls.Step x)) c.retire.result) (sym c.in-Retire.is) c.retire.ensures.step

pub returns-in-Seal-clause-step : goal.returns-in-Seal-clause-step
returns-in-Seal-clause-step c = subst (λ x. Does UpAt c.args.session.now c.seal.new.session (server_call (calls.Step x)) c.seal.result) (sym c.in-Seal.is) c.seal.ensures.step

pub returns-in-Roll-clause-step : goal.returns-in-Roll-clause-step
returns-in-Roll-clause-step c = subst (λ x. Does UpAt c.args.session.now c.roll.new.session (server_call (calls.Step x)) c.roll.result) (sym c.in-Roll.is) c.roll.ensures.step
