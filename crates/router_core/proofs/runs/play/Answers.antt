use Rattle.std.proofs.Common.{sym, subst}
use Rattle.core_world.specs.declared.events.Event.{Event}
use Rattle.core_world.specs.Events.{event_of}
use Rattle.mux_model.specs.Entries.{said_by}
use Rattle.router_core.specs.Worlds.{Steps}
use Rattle.router_core.proofs.Running.{was_refused, was_accepted}
use Rattle.router_core.proofs.runs.play.Goals as goal

pub returns-in_ok-accept-in-Ok : goal.returns-in_ok-accept-in-Ok
returns-in_ok-accept-in-Ok c =
    was_accepted c.args.core.now c.step.new.self c.args.sides.now.items c.accept.new.sides.items (event_of c.args.event.now) c.step.result c.in-Ok.note c.meet-met.result (said_by c.in_ok-taken.taken) c.in-Ok.is
    (subst (λ (e : Event). Steps c.args.core.now c.step.new.self (event_of e) c.step.result) c.in_ok-try_copy.ensures c.step.ensures.step) c.meet-met.ensures c.in_ok-taken.ensures c.in_ok-accept-in-Ok.ensures

pub returns-else-is_memory : goal.returns-else-is_memory
returns-else-is_memory c =
    was_refused c.args.core.now c.step.new.self c.args.sides.now.items (event_of c.args.event.now) c.step.result c.in-Err.why c.in-Err.back c.in-Err.is (sym c.if-is_memory.ensures) c.in-Err.ensures.err.1
    (subst (λ (e : Event). Steps c.args.core.now c.step.new.self (event_of e) c.step.result) c.in_ok-try_copy.ensures c.step.ensures.step)
