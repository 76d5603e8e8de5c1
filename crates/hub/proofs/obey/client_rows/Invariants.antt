use Rattle.std.proofs.Common.{[]}
use Rattle.hub_steps.specs.Down.{MayKeepDown}
use Rattle.hub.specs.Reporting.{AddsRows, IsOfClient}
use Rattle.hub.proofs.obey.client_rows.Given as goal

abbrev pub invariant-loop-slot : goal.invariant-loop-slot
invariant-loop-slot g l = AddsRows MayKeepDown IsOfClient l.slot-index [] l.rows.items
