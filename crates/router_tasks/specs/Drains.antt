-- What an order to drain a client led to, and which clients are asked in a turn.
use Rattle.std.specs.Prelude.{ℕ, nat_le, Result, Ok, Err, if◌then◌else◌}
use Rattle.hub.specs.declared.admin.AdminReply.{AdminReply}
use Rattle.hub.specs.declared.admin.OrderFault.{OrderFault}
use Rattle.hub.specs.declared.admin.OrderFault.TheVariants as faults
use Rattle.hub.specs.declared.admin.OrderRefusal.TheVariants as refusals
use Rattle.server_session.specs.declared.answers.DrainRefusal.TheVariants as drains
use Rattle.hub_close.specs.declared.words.DownWord.{DownWord}
use Rattle.hub_close.specs.declared.words.DownWord.TheVariants.{Closed, Drained, Draining, Open}
use Rattle.router_tasks.specs.declared.drains.Drain.{Drain}
use Rattle.router_tasks.specs.declared.drains.Drain.TheVariants.{Asked, Left, Passed, Unknown}
use Rattle.router_tasks.specs.declared.drains.Step.{Step}
use Rattle.router_tasks.specs.declared.drains.Step.TheVariants.{Ask, Wait, Pass}

-- an open client is left only where its queue or its history was full
abbrev pub drain_of : Result AdminReply OrderFault → Drain
drain_of (Ok reply) = Asked
drain_of (Err (faults.Refused (refusals.Drain drains.Busy))) = Left
drain_of (Err (faults.Refused (refusals.Drain drains.Spent))) = Left
drain_of (Err faults.NoSuchSession) = Unknown
drain_of (Err fault) = Passed

-- an open client is asked, unless a hundred were asked in this turn
abbrev pub step_by : DownWord → (asked : ℕ) → Step
step_by Open asked = if nat_le 100 asked then Wait else Ask
step_by Closed asked = Pass
step_by Drained asked = Pass
step_by Draining asked = Pass
