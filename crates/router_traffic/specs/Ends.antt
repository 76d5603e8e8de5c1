-- Why a connection ended.
use Rattle.std.specs.Prelude.{Bool, true, false, Option, Some, None, cond}
use Rattle.mux_frame.specs.declared.fault.FrameFault.TheVariants as faults
use Rattle.operator_port.specs.declared.ends.End.{End}
use Rattle.operator_port.specs.declared.ends.End.TheVariants as ends
use Rattle.router_traffic.specs.declared.ends.Last.{Last}
use Rattle.tokio_sessions.specs.declared.read_session.ReadEnd.{ReadEnd}
use Rattle.tokio_sessions.specs.declared.read_session.ReadEnd.TheVariants as read
use Rattle.tokio_sessions.specs.declared.write_session.WriteEnd.{WriteEnd}
use Rattle.tokio_sessions.specs.declared.write_session.WriteEnd.TheVariants as write

-- no more of what came was taken: a frame closed the session, or the router ends, or a frame found no place in it, or
-- none was opened
abbrev pub stop_by : Last → End
stop_by last =
    cond last.is_closed ends.Protocol (cond last.is_stopped ends.Quit (cond last.is_opened ends.Places ends.Refused))

-- the peer closed the connection, as was agreed or not
abbrev pub left_by : (leave : Option End) → End
left_by None = ends.Closed
left_by (Some end) = end

-- whoever had it end said why; else it is what the reader met
abbrev pub end_by : (told : Option End) → ReadEnd → Last → End
end_by (Some end) met last = end
end_by None read.End last = left_by last.leave
end_by None (read.Fault faults.TooLarge) last = ends.Stream
end_by None (read.Fault faults.TooShort) last = ends.Stream
end_by None (read.Fault faults.Truncated) last = ends.Stream
end_by None (read.Fault faults.Read) last = ends.Read
end_by None (read.Fault faults.Memory) last = ends.Memory
end_by None read.Stopped last = stop_by last

-- a write failed, or all was written behind which nothing comes, while the router runs
abbrev pub told_by : WriteEnd → (is_stopped : Bool) → Option End
told_by write.Fault is_stopped = Some ends.Write
told_by write.Done true = None
told_by write.Done false = Some ends.Drained
