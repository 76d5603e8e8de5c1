-- What each kind of record tells of the step that wrote it.
use Rattle.std.specs.Prelude.{Bool, true, false, Option, Some, None}
use Rattle.mux_history.specs.declared.kind.RecordKind.{RecordKind}
use Rattle.mux_history.specs.declared.kind.RecordKind.TheVariants.{Took, TookDrained, Discarded, Ponged, InitDone, Echoed, OutOfPlace, Unsupported, DrainAcked, Ignored, Noted, Passed, Retried, Nacked, Unrouted, Failed, Late, DrainAsked, Closed, Lost, Recalled, Epoch, Rolled, Offered, Settled, SettledNack, Dropped, PingDone, Leased, Drained, InitAsked, Discarding, Clock, Retired, PingSent, LostOne}
use Rattle.incident_script.specs.declared.command.Command.{Command}
use Rattle.incident_script.specs.declared.command.Command.TheVariants.{Frame, Spend, Obey}
use Rattle.incident_script.specs.declared.command.Purpose.{Purpose}
use Rattle.incident_script.specs.declared.command.Purpose.TheVariants as purposes
use Rattle.incident_script.specs.declared.command.Order.{Order}
use Rattle.incident_script.specs.declared.command.Order.TheVariants as orders
use Rattle.incident_script.specs.declared.command.ValueKind.{ValueKind}
use Rattle.incident_script.specs.declared.command.ValueKind.TheVariants as kinds

-- what a client's session did where it wrote a record of this kind
abbrev pub command_down : RecordKind → Option Command
command_down Took = Some Frame
command_down TookDrained = Some Frame
command_down (Discarded _) = Some Frame
command_down Ponged = Some Frame
command_down InitDone = Some Frame
command_down Echoed = Some Frame
command_down OutOfPlace = Some Frame
command_down Unsupported = Some Frame
command_down DrainAcked = Some Frame
command_down Ignored = Some Frame
command_down (Closed _) = Some Frame
command_down (Noted _) = Some (Spend purposes.Note)
command_down Passed = Some (Spend purposes.Settle)
command_down Retried = Some (Spend purposes.Retry)
command_down Nacked = Some (Spend purposes.Nack)
command_down Unrouted = Some (Spend purposes.Unroute)
command_down Failed = Some (Spend purposes.Fail)
command_down (Late true) = Some (Spend purposes.LateTicket)
command_down (Late false) = Some (Spend purposes.LateReply)
command_down DrainAsked = Some (Obey orders.Drain)
command_down Recalled = Some (Obey orders.Next)
command_down Lost = Some (Obey orders.Lose)
command_down (Epoch _ _) = Some (Obey orders.Seal)
command_down (Rolled _) = Some (Obey orders.Roll)
command_down _ = None

-- what a server's session did
abbrev pub command_up : RecordKind → Option Command
command_up (Settled _) = Some Frame
command_up SettledNack = Some Frame
command_up Dropped = Some Frame
command_up Ponged = Some Frame
command_up InitAsked = Some Frame
command_up InitDone = Some Frame
command_up PingDone = Some Frame
command_up (Leased _) = Some Frame
command_up Drained = Some Frame
command_up Unsupported = Some Frame
command_up Ignored = Some Frame
command_up (Closed _) = Some Frame
command_up Offered = Some (Spend purposes.Offer)
command_up Discarding = Some (Spend purposes.Recall)
command_up Clock = Some (Obey orders.Clock)
command_up Retired = Some (Obey orders.Retire)
command_up PingSent = Some (Obey orders.Ping)
command_up LostOne = Some (Obey orders.Next)
command_up Lost = Some (Obey orders.Lose)
command_up (Epoch _ _) = Some (Obey orders.Seal)
command_up (Rolled _) = Some (Obey orders.Roll)
command_up _ = None

-- the value that such a step gives
abbrev pub given_by : RecordKind → Option ValueKind
given_by Took = Some kinds.Ticket
given_by Retried = Some kinds.Ticket
given_by Offered = Some kinds.Placed
given_by (Settled _) = Some (kinds.Settled false)
given_by SettledNack = Some (kinds.Settled true)
given_by (Discarded true) = Some kinds.Recall
given_by (Noted true) = Some kinds.Recall
given_by Recalled = Some kinds.Recall
given_by LostOne = Some kinds.Lost
given_by _ = None

-- the reading of the clock matters
abbrev pub purpose_reads : Purpose → Bool
purpose_reads purposes.Offer = true
purpose_reads purposes.Recall = true
purpose_reads _ = false

abbrev pub order_reads : Order → Bool
order_reads orders.Clock = true
order_reads orders.Ping = true
order_reads orders.Retire = true
order_reads orders.Lose = true
order_reads _ = false

abbrev pub reads : Command → Bool
reads Frame = true
reads (Spend purpose) = purpose_reads purpose
reads (Obey order) = order_reads order
