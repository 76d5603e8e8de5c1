-- Draining, on both sides of the router.
use Rattle.std.specs.Prelude.{ℕ, Bool, true, false, ◌==◌, if◌then◌else◌}
use Rattle.mux_history.specs.declared.session.DrainState.{DrainState}
use Rattle.mux_history.specs.declared.session.DrainState.TheVariants as states
use Rattle.gate.specs.declared.drain.DrainIn.{DrainIn}
use Rattle.gate.specs.declared.drain.DrainIn.TheVariants.{Drained}
use Rattle.gate.specs.declared.drain.DrainOut.{DrainOut}
use Rattle.gate.specs.declared.drain.DrainOut.TheVariants.{Running, Asked, Acked}

-- a Tdrain of the server was answered
abbrev pub is_drained : DrainIn → Bool
is_drained Drained = true
is_drained _ = false

-- no Tdrain was sent to the client
abbrev pub is_running : DrainOut → Bool
is_running Running = true
is_running _ = false

-- the client has answered the Tdrain
abbrev pub is_acked : DrainOut → Bool
is_acked Acked = true
is_acked _ = false

-- how far the draining of a client has come, as a history keeps it
abbrev pub state_of : DrainOut → DrainState
state_of Running = states.Running
state_of (Asked tag) = states.Asked
state_of Acked = states.Acked

-- an Rdrain with this tag answers the Tdrain that was sent
abbrev pub answers : ℕ → DrainOut → Bool
answers tag (Asked asked) = asked == tag
answers tag _ = false

-- what an Rdrain with this tag makes of it
abbrev pub after_rdrain : ℕ → DrainOut → DrainOut
after_rdrain tag drain = if answers tag drain then Acked else drain
