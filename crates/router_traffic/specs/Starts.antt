-- What becomes of a client's connection that has no session.
use Rattle.std.specs.Prelude.{Bool, true, false}
use Rattle.router_state.specs.declared.seat.Side.{Side}
use Rattle.router_state.specs.declared.seat.Side.TheVariants as side
use Rattle.router_traffic.specs.declared.start.Start.{Start}
use Rattle.router_traffic.specs.declared.start.Start.TheVariants.{Opens, Waits, Closes}

-- a connection that sent no whole frame takes no session, and where no session can be opened nobody waits for one
abbrev pub start_by : (has_frame has_place : Bool) → Start
start_by has_frame false = Closes
start_by false true = Waits
start_by true true = Opens

abbrev pub is_server : Side → Bool
is_server (side.Client place) = false
is_server (side.Server server) = true
