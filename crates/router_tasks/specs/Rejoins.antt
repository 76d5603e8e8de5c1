-- Whether a server's connection is done with, whether it can be made anew or elsewhere, and whether it can be cut.
use Rattle.std.specs.Prelude.{ℕ, zero, suc, Bool, true, false, nat_eq, Option, Some, None}
use Rattle.hub_close.specs.declared.words.UpWord.{UpWord}
use Rattle.operator_port.specs.declared.ends.End.{End}
use Rattle.operator_port.specs.declared.reply.Lack.TheVariants.{OtherInit, Open as OtherOpen}
use Rattle.router_tasks.specs.declared.servers.Placing.{Placing}
use Rattle.router_tasks.specs.declared.servers.Placing.TheVariants.{Connects, Stays, Refused}
use Rattle.router_state.specs.Gone.{server_leave_by}
use Rattle.hub_close.specs.declared.words.UpWord.TheVariants.{Closed, Drained, Retired, Opening, Open}

-- its session takes no dispatch any more, holds none, and has no frame left to be sent: so the router closes it
abbrev pub done_by : UpWord → (load queued : ℕ) → Option End
done_by word load zero = server_leave_by word load
done_by word load (suc queued) = None

-- its session is over, or takes no dispatch any more and holds none
abbrev pub may_rejoin_by : UpWord → (load : ℕ) → Bool
may_rejoin_by Closed load = true
may_rejoin_by Drained load = nat_eq load 0
may_rejoin_by Retired load = nat_eq load 0
may_rejoin_by Opening load = false
may_rejoin_by Open load = false

-- no connection of it is needed: no session is about to be opened, and there was none, or its connection can be made
-- anew
abbrev pub is_idle_by : (is_opening : Bool) → Option (UpWord × ℕ) → Bool
is_idle_by true session = false
is_idle_by false None = true
is_idle_by false (Some (word, load)) = may_rejoin_by word load

-- a server whose sessions begin as the order says moves if no connection of it is needed, and stays where it is in use
abbrev pub placing_by : (is_init is_idle is_there : Bool) → Placing
placing_by false is_idle is_there = Refused OtherInit
placing_by true true is_there = Connects
placing_by true false true = Stays
placing_by true false false = Refused OtherOpen

-- its session isn't over
abbrev pub may_cut_by : UpWord → Bool
may_cut_by Closed = false
may_cut_by Drained = true
may_cut_by Retired = true
may_cut_by Opening = true
may_cut_by Open = true
