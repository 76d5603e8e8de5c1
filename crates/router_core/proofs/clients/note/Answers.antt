use Rattle.std.proofs.Common.{ap, ◌∙◌}
use Rattle.std.specs.Option.{option_map}
use Rattle.core_world.specs.declared.calls.Told.TheVariants as told
use Rattle.core_world.specs.declared.hands.Held.TheVariants as held
use Rattle.router_core.proofs.LeadingDown.{note_ok}
use Rattle.router_core.proofs.clients.note.Goals as goal

pub returns-in-Ok-clause-step : goal.returns-in-Ok-clause-step
returns-in-Ok-clause-step c =
    note_ok _ _ c.args.placed _ c.in-Ok.recall c.in-Ok.is c.note.ensures.step _
    (c.noted.ensures ∙ ap (λ n. record { told = told.Noted n; given = option_map (λ y. held.Recall y) c.in-Ok.recall }) c.name-name.ensures)
