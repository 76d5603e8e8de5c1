-- The table of the configuration: what each key may hold, in the order in which keys are read.
use Rattle.std.specs.Prelude.{ℕ, pos, ◌+◌, max, nat_le, List, Bool, false, ◌&&◌, codes, Option, Some, None, ok_or, Result, Ok, Err, if◌then◌else◌}
use Rattle.std.specs.Str.{bytes_eq}
use Rattle.std.specs.declared.net.socket_addr.SocketAddr.{SocketAddr}
use Rattle.toml.specs.Data.{Data, string, integer, Members, get_member}
use Rattle.route_table.specs.declared.key.Key.{Key}
use Rattle.route_table.specs.declared.key.Key.TheVariants.{Listen, Admin, Boot, MaxFrame, Window, Out, History, ServerWindow, ServerOut, ServerHistory, OutBytes, Clients, Sessions, Retries, TickMs, AdminIdleMs, ClientIdleMs, FrameMs, ServerSilentMs, Operator, MetricsHttp, ReconnectMs, EjectAfter, EjectMs, Threads, Recorded, Audit, Server, ServerName, ServerAddress, ServerInit, Route, RouteDst, RouteServers}
use Rattle.route_table.specs.declared.audit.AuditMode.{AuditMode}
use Rattle.route_table.specs.declared.audit.AuditMode.TheVariants.{Close, Rolling}
use Rattle.route_table.specs.declared.settings.Settings.{Settings}
use Rattle.route_table.specs.Address.{address_of}
use Rattle.route_table.specs.Fault.{Fault, missing, bad_value, and_then}

-- a key within its table
abbrev pub name_of : Key → List ℕ
name_of Listen = codes "listen"
name_of Admin = codes "admin"
name_of Boot = codes "boot"
name_of MaxFrame = codes "max_frame"
name_of Window = codes "window"
name_of Out = codes "out"
name_of History = codes "history"
name_of ServerWindow = codes "server_window"
name_of ServerOut = codes "server_out"
name_of ServerHistory = codes "server_history"
name_of OutBytes = codes "out_bytes"
name_of Clients = codes "clients"
name_of Sessions = codes "sessions"
name_of Retries = codes "retries"
name_of TickMs = codes "tick_ms"
name_of AdminIdleMs = codes "admin_idle_ms"
name_of ClientIdleMs = codes "client_idle_ms"
name_of FrameMs = codes "frame_ms"
name_of ServerSilentMs = codes "server_silent_ms"
name_of Operator = codes "operator"
name_of MetricsHttp = codes "metrics_http"
name_of ReconnectMs = codes "reconnect_ms"
name_of EjectAfter = codes "eject_after"
name_of EjectMs = codes "eject_ms"
name_of Threads = codes "threads"
name_of Recorded = codes "record"
name_of Audit = codes "audit"
name_of Server = codes "server"
name_of ServerName = codes "name"
name_of ServerAddress = codes "address"
name_of ServerInit = codes "init"
name_of Route = codes "route"
name_of RouteDst = codes "dst"
name_of RouteServers = codes "servers"

abbrev pub value_at : Members → Key → Option Data
value_at doc key = get_member (name_of key) doc

-- a value that is a text
abbrev pub text_of : Key → Option Data → Result (List ℕ) Fault
text_of key None = Err (missing key)
text_of key (Some (string text)) = Ok text
text_of key (Some _) = Err (bad_value key)

abbrev pub text_at : Members → Key → Result (List ℕ) Fault
text_at doc key = text_of key (value_at doc key)

-- this text
abbrev pub is_text : List ℕ → Data → Bool
is_text text (string other) = bytes_eq other text
is_text text _ = false

-- a text that is a numeric address and port
abbrev pub address_in : Key → List ℕ → Result SocketAddr Fault
address_in key text = ok_or (address_of text) (bad_value key)

unfoldable pub address_at : Members → Key → Result SocketAddr Fault
address_at doc key = and_then (text_at doc key) (address_in key)

abbrev pub some_address : SocketAddr → Result (Option SocketAddr) Fault
some_address address = Ok (Some address)

abbrev pub address_if : Members → Key → Option Data → Result (Option SocketAddr) Fault
address_if doc key None = Ok None
address_if doc key (Some value) = and_then (address_at doc key) some_address

-- the same, or None where the key isn't there
unfoldable pub optional_address_at : Members → Key → Result (Option SocketAddr) Fault
optional_address_at doc key = address_if doc key (value_at doc key)

-- the numbers from low to high, and the one that holds where the key isn't there
pub record Range : Type 0 where
  pub low : ℕ
  pub high : ℕ
  pub default : ℕ

abbrev pub in_range : Key → Range → ℕ → Result ℕ Fault
in_range key range n = if nat_le range.low n && nat_le n range.high then Ok n else Err (bad_value key)

abbrev pub number_of : Key → Range → Option Data → Result ℕ Fault
number_of key range None = in_range key range range.default
number_of key range (Some (integer (pos n))) = in_range key range n
number_of key range (Some _) = Err (bad_value key)

unfoldable pub number_at : Members → Key → Range → Result ℕ Fault
number_at doc key range = number_of key range (value_at doc key)

abbrev some_number : ℕ → Result (Option ℕ) Fault
some_number n = Ok (Some n)

abbrev number_if : Members → Key → Range → Option Data → Result (Option ℕ) Fault
number_if doc key range None = Ok None
number_if doc key range (Some value) = and_then (number_at doc key range) some_number

-- the same, or None where the key isn't there
unfoldable pub optional_number_at : Members → Key → Range → Result (Option ℕ) Fault
optional_number_at doc key range = number_if doc key range (value_at doc key)

abbrev range : ℕ → ℕ → ℕ → Range
range low high default = record { low = low; high = high; default = default }

-- one of two words, each with what it stands for
abbrev pub word_in : {A : Type 0} → Key → List ℕ × A → List ℕ × A → Data → Result A Fault
word_in key first second d =
    if is_text first.0 d then Ok first.1 else if is_text second.0 d then Ok second.1 else Err (bad_value key)

abbrev pub word_of : {A : Type 0} → Key → List ℕ × A → List ℕ × A → Option Data → Result A Fault
word_of key first second None = Ok first.1
word_of key first second (Some d) = word_in key first second d

-- the first of them where the key isn't there
unfoldable pub word_at : {A : Type 0} → Members → Key → List ℕ × A → List ℕ × A → Result A Fault
word_at doc key first second = word_of key first second (value_at doc key)

-- when the histories of a run are looked at
abbrev pub audit_at : Members → Result AuditMode Fault
audit_at doc = word_at doc Audit (codes "close", Close) (codes "rolling", Rolling)

-- what stands outside the arrays
unfoldable pub settings_in : Members → Result Settings Fault
settings_in doc =
    and_then (address_at doc Listen) λ listen.
    and_then (address_at doc Admin) λ admin.
    and_then (number_at doc Boot (range 1 1000000000 1)) λ boot.
    and_then (number_at doc MaxFrame (range 32 16777216 1048576)) λ max_frame.
    and_then (number_at doc Window (range 1 65536 1024)) λ window.
    and_then (number_at doc Out (range (window + 4) 1048576 2048)) λ out.
    and_then (number_at doc History (range 16 16777216 65536)) λ history.
    and_then (number_at doc ServerWindow (range 1 65536 window)) λ server_window.
    and_then (number_at doc ServerOut (range (server_window + 4) 1048576 (max out (server_window + 4)))) λ server_out.
    and_then (number_at doc ServerHistory (range 16 16777216 history)) λ server_history.
    and_then (number_at doc OutBytes (range 1048576 4294967296 67108864)) λ out_bytes.
    and_then (number_at doc Clients (range 1 1024 64)) λ clients.
    and_then (number_at doc Sessions (range 1 65536 1024)) λ sessions.
    and_then (number_at doc Retries (range 0 3 0)) λ retries.
    and_then (number_at doc TickMs (range 10 60000 1000)) λ tick_ms.
    and_then (number_at doc AdminIdleMs (range 100 3600000 60000)) λ admin_idle_ms.
    and_then (optional_number_at doc ClientIdleMs (range 100 86400000 100)) λ client_idle_ms.
    and_then (number_at doc FrameMs (range 100 3600000 30000)) λ frame_ms.
    and_then (optional_number_at doc ServerSilentMs (range 100 86400000 100)) λ server_silent_ms.
    and_then (optional_address_at doc Operator) λ operator.
    and_then (optional_address_at doc MetricsHttp) λ metrics_http.
    and_then (optional_number_at doc ReconnectMs (range 10 3600000 10)) λ reconnect_ms.
    and_then (optional_number_at doc EjectAfter (range 1 1000 1)) λ eject_after.
    and_then (number_at doc EjectMs (range 100 3600000 10000)) λ eject_ms.
    and_then (number_at doc Threads (range 1 16 1)) λ threads.
    and_then (number_at doc Recorded (range 0 10000 0)) λ recorded.
    and_then (audit_at doc) λ audit.
    Ok (record {
      listen = listen;
      admin = admin;
      boot = boot;
      max_frame = max_frame;
      window = window;
      out = out;
      history = history;
      server_window = server_window;
      server_out = server_out;
      server_history = server_history;
      out_bytes = out_bytes;
      clients = clients;
      sessions = sessions;
      retries = retries;
      tick_ms = tick_ms;
      admin_idle_ms = admin_idle_ms;
      client_idle_ms = client_idle_ms;
      frame_ms = frame_ms;
      server_silent_ms = server_silent_ms;
      operator = operator;
      metrics_http = metrics_http;
      reconnect_ms = reconnect_ms;
      eject_after = eject_after;
      eject_ms = eject_ms;
      threads = threads;
      recorded = recorded;
      audit = audit;
    })
