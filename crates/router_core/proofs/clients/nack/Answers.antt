use Rattle.std.proofs.Common.{ap, ◌∙◌}
use Rattle.core_world.specs.declared.calls.Gave.{Gave}
use Rattle.router_core.specs.Gifts.{telling, gave_answer}
use Rattle.router_core.proofs.LeadingDown.{nack_ok}
use Rattle.router_core.proofs.clients.nack.Goals as goal

pub returns-in-Ok-clause-step : goal.returns-in-Ok-clause-step
returns-in-Ok-clause-step c =
    nack_ok _ _ c.args.ticket _ c.in-Ok.answer c.in-Ok.is c.nack.ensures.step _
    (c.telling.ensures ∙ ap (λ (g : Gave). telling g.told) (c.answered.ensures ∙ ap (λ n. gave_answer n c.in-Ok.answer) c.name-name.ensures))
