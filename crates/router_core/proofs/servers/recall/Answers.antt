use Rattle.std.proofs.Common.{ap, ◌∙◌}
use Rattle.router_core.proofs.Leading.{recalled_sent, recalled_stale}
use Rattle.router_core.specs.Gifts.{telling}
use Rattle.core_world.specs.declared.calls.Told.TheVariants as told
use Rattle.router_core.proofs.servers.recall.Goals as goal

pub returns-in-Sent-clause-step : goal.returns-in-Sent-clause-step
returns-in-Sent-clause-step c = recalled_sent _ _ c.args.recall c.args.now _ c.in-Sent.is c.recall.ensures.step _ (c.telling.ensures ∙ ap (λ n. telling (told.Recalled n)) c.name-name.ensures)

pub returns-in-Stale-clause-step : goal.returns-in-Stale-clause-step
returns-in-Stale-clause-step c = recalled_stale _ _ c.args.recall c.args.now _ c.in-Stale.is c.recall.ensures.step _ (c.telling-in-Stale.ensures ∙ ap (λ n. telling (told.Stale n)) c.name-name.ensures)
