-- The lines of `events`.
use Rattle.std.specs.Prelude.{ℕ, List, ◌++◌, Option, Some, None, codes, decimal}
use Rattle.std.specs.Net.Text.{socket_text}
use Rattle.std.specs.declared.net.socket_addr.SocketAddr.{SocketAddr}
use Rattle.mux_history.specs.declared.session.SessionId.{SessionId}
use Rattle.mux_history.specs.declared.session.SessionId.TheVariants.{Client, Server}
use Rattle.operator_port.specs.declared.events.EventRow.{EventRow}
use Rattle.operator_port.specs.Ends.{end_text}

abbrev pub session_text : SessionId → List ℕ
session_text (Client number) = codes "client " ++ decimal number
session_text (Server number) = codes "server " ++ decimal number

abbrev pub peer_text : Option SocketAddr → List ℕ
peer_text (Some address) = socket_text address
peer_text None = codes "unknown"

-- when it ended, whose session it was, who was at the other end, why it ended, and how many dispatches were open
abbrev pub event_line : EventRow → List ℕ
event_line row =
    decimal row.elapsed ++ (codes " " ++ (session_text row.session ++ (codes " " ++ (peer_text row.peer
    ++ (codes " " ++ (end_text row.end ++ (codes " open " ++ decimal row.open)))))))
