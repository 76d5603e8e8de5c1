use Rattle.std.proofs.Common.{[], List, rules, subst}
use Rattle.hub_steps.specs.Down.{MayKeepDown}
use Rattle.hub.specs.declared.admin.Row.{Row}
use Rattle.hub.specs.Reporting.{AddsRows, IsOfClient}
use Rattle.hub.proofs.Reporting.{adds_more, adds_none}
use Rattle.hub.proofs.obey.client_rows.Goals as goal

pub loop-slot-init : goal.loop-slot-init
loop-slot-init g c =
    subst (λ (rows : List Row). AddsRows MayKeepDown IsOfClient 0 [] rows) (search rules)
    (adds_none MayKeepDown IsOfClient [])

pub loop-slot-preserved : goal.loop-slot-preserved
loop-slot-preserved g c =
    adds_more MayKeepDown IsOfClient _ [] _ _ c.loop-slot.invariant c.in_ok-add_client.ensures
