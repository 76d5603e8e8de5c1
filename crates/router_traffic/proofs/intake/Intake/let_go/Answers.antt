use Rattle.std.proofs.Common.{arith}
use Rattle.router_traffic.specs.HandingLaws.{nothing}
use Rattle.router_traffic.proofs.Handing.{none_waits}
use Rattle.router_traffic.proofs.intake.Intake.let_go.Goals as goal

pub returns-then-waits-gt0 : goal.returns-then-waits-gt0
returns-then-waits-gt0 g c = nothing _

pub returns-in_default : goal.returns-in_default
returns-in_default g c = none_waits _ _ (omega arith) c.take.ensures.after

pub returns-in-Some-batches : goal.returns-in-Some-batches
returns-in-Some-batches g c = none_waits _ _ (omega arith) c.take.ensures.after

pub returns-in_default-batches : goal.returns-in_default-batches
returns-in_default-batches g c = none_waits _ _ (omega arith) c.take.ensures.after
