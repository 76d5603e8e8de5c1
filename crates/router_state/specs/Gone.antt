-- When a client has all its answers, and when a connection ends as was agreed.
use Rattle.std.specs.Prelude.{ℕ, Bool, false, ◌&&◌, nat_eq, Option, Some, None, cond}
use Rattle.hub_close.specs.declared.words.DownWord.{DownWord}
use Rattle.hub_close.specs.declared.words.DownWord.TheVariants.{Closed, Drained, Draining, Open}
use Rattle.hub_close.specs.declared.words.UpWord.{UpWord}
use Rattle.hub_close.specs.declared.words.UpWord.TheVariants as up
use Rattle.operator_port.specs.declared.ends.End.{End}
use Rattle.operator_port.specs.declared.ends.End.TheVariants as ends

-- it said that it sends no more dispatches, holds none, and has taken out each frame that was queued for it
abbrev pub is_answered_by : DownWord → (entries queued : ℕ) → Bool
is_answered_by Closed entries queued = false
is_answered_by Drained entries queued = nat_eq entries 0 && nat_eq queued 0
is_answered_by Draining entries queued = false
is_answered_by Open entries queued = false

-- it said that it sends no more, and holds nothing
abbrev pub client_leave_by : DownWord → (entries : ℕ) → Option End
client_leave_by Closed entries = None
client_leave_by Drained entries = cond (nat_eq entries 0) (Some ends.Drained) None
client_leave_by Draining entries = None
client_leave_by Open entries = None

-- it said that it takes no more, or an operator did, and it holds nothing
abbrev pub server_leave_by : UpWord → (load : ℕ) → Option End
server_leave_by up.Closed load = None
server_leave_by up.Drained load = cond (nat_eq load 0) (Some ends.Drained) None
server_leave_by up.Retired load = cond (nat_eq load 0) (Some ends.Retired) None
server_leave_by up.Opening load = None
server_leave_by up.Open load = None
