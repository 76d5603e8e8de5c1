use Rattle.hub_steps.specs.Up.{MayKeep}
use Rattle.hub.specs.Reporting.{AddsRows, IsOfServer}
use Rattle.hub.proofs.obey.add_servers.Given as goal

abbrev pub invariant-loop-place : goal.invariant-loop-place
invariant-loop-place g l = AddsRows MayKeep IsOfServer l.place l.initial.rows.items l.rows.items
