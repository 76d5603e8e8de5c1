-- The text of each reply.
use Rattle.std.specs.declared.net.socket_addr.SocketAddr.{SocketAddr}
use Rattle.std.specs.Prelude.{Option, ℕ, List, [], ◌∷◌, ◌++◌, length, map, Bool, not, ◌&&◌, nat_le, ◌==◌, codes, decimal, string_bytes, if◌then◌else◌}
use Rattle.std.specs.List.{join_by, list_all}
use Rattle.std.specs.Net.Text.{socket_text}
use Rattle.operator_port.specs.Events.{peer_text}
use Rattle.operator_port.specs.declared.figures.AddressRow.{AddressRow}
use Rattle.operator_port.specs.declared.figures.ClientRow.{ClientRow}
use Rattle.operator_port.specs.declared.figures.Figures.{Figures}
use Rattle.operator_port.specs.declared.figures.RouteRow.{RouteRow}
use Rattle.operator_port.specs.declared.figures.ServerRow.{ServerRow}
use Rattle.operator_port.specs.declared.reply.Lack.{Lack}
use Rattle.operator_port.specs.declared.reply.Lack.TheVariants as lacks
use Rattle.operator_port.specs.declared.reply.Reply.{Reply}
use Rattle.operator_port.specs.declared.reply.Reply.TheVariants as replies
use Rattle.operator_port.specs.Events.{event_line}
use Rattle.operator_port.specs.Leases.{lease_text}
use Rattle.operator_port.specs.Metrics.{metric_lines}
use Rattle.operator_port.specs.Questions.{init_end, line_of, questions}
use Rattle.operator_port.specs.States.{down_text, up_text}
use Rattle.operator_port.specs.Texts.{text_of}

abbrev pub head_line : (boot now : ℕ) → List ℕ
head_line boot now = codes "boot " ++ (decimal boot ++ (codes " now " ++ decimal now))

-- how many records there are of how many, and the number of the epoch
abbrev pub room_text : (records history epoch : ℕ) → List ℕ
room_text records history epoch =
    codes "records " ++ (decimal records ++ (codes " of " ++ (decimal history ++ (codes " epoch " ++ decimal epoch))))

-- behind that how many frames are queued, and for whom
abbrev pub tail_text : (room : List ℕ) → (queued : ℕ) → Option SocketAddr → List ℕ
tail_text room queued peer =
    room ++ (codes " queued " ++ (decimal queued ++ (codes " peer " ++ peer_text peer)))

abbrev pub client_line : ℕ → ClientRow → List ℕ
client_line history row =
    codes "client " ++ (decimal row.number ++ (codes " " ++ (down_text row.word
    ++ (codes " entries " ++ (decimal row.entries
    ++ (codes " " ++ tail_text (room_text row.records history row.epoch) row.queued row.peer))))))

abbrev pub server_line : (history now : ℕ) → ServerRow → List ℕ
server_line history now row =
    codes "server " ++ (string_bytes row.name ++ (codes " " ++ (up_text row.word
    ++ (codes " load " ++ (decimal row.load ++ (codes " lease " ++ (lease_text row.lapse now
    ++ (codes " ejected " ++ (decimal row.ejected
    ++ (codes " " ++ tail_text (room_text row.records history row.epoch) row.queued row.peer))))))))))

abbrev pub full_lines : Figures → List (List ℕ)
full_lines f =
    head_line f.boot f.elapsed ∷ (map (client_line f.history) f.clients.items
    ++ (map (server_line f.server_history f.elapsed) f.servers.items ++ (codes "end" ∷ [])))

-- ROUTES

abbrev pub names_text : RouteRow → List ℕ
names_text row = join_by string_bytes (codes ",") row.names.items

-- the line that sets a route
abbrev pub setting_line : RouteRow → List ℕ
setting_line row = codes "route " ++ (row.dst.items ++ (32 ∷ names_text row))

-- a line can set it: no space and no line feed in the destination, and 1,024 bytes at most
abbrev pub is_settable : RouteRow → Bool
is_settable row =
    list_all (λ b. not (b == 32) && not (b == 10)) row.dst.items && nat_le (length (setting_line row)) 1024

-- the line that would set a route again, or, where none can, only its servers
abbrev pub route_line : RouteRow → List ℕ
route_line row = if is_settable row then setting_line row else codes "unwritable " ++ names_text row

-- SERVERS

-- the line that gives a server its address again
abbrev pub address_line : AddressRow → List ℕ
address_line row =
    codes "server " ++ (string_bytes row.name ++ (codes " " ++ (socket_text row.address ++ init_end row.init)))

abbrev pub help_lines : List (List ℕ)
help_lines = map line_of questions ++ (codes "end" ∷ [])

abbrev pub drained_line : (drained left : ℕ) → List ℕ
drained_line drained left = codes "drained " ++ (decimal drained ++ (codes " left " ++ decimal left))

abbrev pub stopping_line : (count : ℕ) → List ℕ
stopping_line count = codes "stopping " ++ (decimal count ++ codes " open")

abbrev pub lack_line : Lack → List ℕ
lack_line lacks.BadCommand = codes "error BadCommand"
lack_line lacks.Memory = codes "error Memory"
lack_line lacks.NotRecorded = codes "error NotRecorded"
lack_line lacks.NoServer = codes "error NoServer"
lack_line lacks.NoSession = codes "error NoSession"
lack_line lacks.UnknownServer = codes "error UnknownServer"
lack_line lacks.Open = codes "error Open"
lack_line lacks.Closed = codes "error Closed"
lack_line lacks.NoAddress = codes "error NoAddress"
lack_line lacks.OtherInit = codes "error OtherInit"

abbrev pub reply_text : Reply → List ℕ
reply_text replies.Help = text_of help_lines
reply_text (replies.Routes rows) = text_of (map route_line rows.items ++ (codes "end" ∷ []))
reply_text (replies.Servers rows) = text_of (map address_line rows.items ++ (codes "end" ∷ []))
reply_text (replies.Drained drained left) = text_of (drained_line drained left ∷ [])
reply_text (replies.Stopping count) = text_of (stopping_line count ∷ [])
reply_text replies.Done = text_of (codes "ok" ∷ [])
reply_text (replies.Events rows) = text_of (map event_line rows.items ++ (codes "end" ∷ []))
reply_text (replies.Full figures) = text_of (full_lines figures)
reply_text (replies.Metrics figures) = text_of (metric_lines figures)
reply_text (replies.Text text) = text.items
reply_text (replies.Failed lack) = text_of (lack_line lack ∷ [])
