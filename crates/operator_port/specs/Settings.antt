-- What a router was configured with, as a configuration that says the same.
use Rattle.std.specs.Prelude.{ℕ, List, [], ◌∷◌, ◌++◌, map, flat_map, Option, Some, None, codes, decimal, string_bytes, slice_get}
use Rattle.std.specs.List.{join_by}
use Rattle.std.specs.Net.Text.{socket_text}
use Rattle.std.specs.declared.net.socket_addr.SocketAddr.{SocketAddr}
use Rattle.mux_history.specs.declared.session.InitMode.{InitMode}
use Rattle.mux_history.specs.declared.session.InitMode.TheVariants.{Probe, Plain}
use Rattle.route_table.specs.Table.{name_of}
use Rattle.route_table.specs.declared.audit.AuditMode.{AuditMode}
use Rattle.route_table.specs.declared.audit.AuditMode.TheVariants.{Close, Rolling}
use Rattle.route_table.specs.declared.config.Config.{Config}
use Rattle.route_table.specs.declared.key.Key.{Key}
use Rattle.route_table.specs.declared.key.Key.TheVariants as key
use Rattle.route_table.specs.declared.route.Route.{Route}
use Rattle.route_table.specs.declared.server.Server.{Server}
use Rattle.operator_port.specs.declared.settings.Value.{Value}
use Rattle.operator_port.specs.declared.settings.Value.TheVariants.{Number, Address, Audit, Unset}
use Rattle.operator_port.specs.Escapes.{toml_byte}

abbrev pub audit_text : AuditMode → List ℕ
audit_text Close = codes "close"
audit_text Rolling = codes "rolling"

abbrev pub init_text : InitMode → List ℕ
init_text Probe = codes "probe"
init_text Plain = codes "plain"

abbrev pub quoted : List ℕ → List ℕ
quoted text = codes "\"" ++ (text ++ codes "\"")

-- OUTSIDE THE ARRAYS

abbrev pub optional_number : Option ℕ → Value
optional_number (Some n) = Number n
optional_number None = Unset

abbrev pub optional_address : Option SocketAddr → Value
optional_address (Some a) = Address a
optional_address None = Unset

abbrev pub value_of : Config → Key → Value
value_of c key.Listen = Address c.listen
value_of c key.Admin = Address c.admin
value_of c key.Boot = Number c.boot
value_of c key.MaxFrame = Number c.max_frame
value_of c key.Window = Number c.window
value_of c key.Out = Number c.out
value_of c key.History = Number c.history
value_of c key.ServerWindow = Number c.server_window
value_of c key.ServerOut = Number c.server_out
value_of c key.ServerHistory = Number c.server_history
value_of c key.OutBytes = Number c.out_bytes
value_of c key.Clients = Number c.clients
value_of c key.Sessions = Number c.sessions
value_of c key.Retries = Number c.retries
value_of c key.TickMs = Number c.tick_ms
value_of c key.AdminIdleMs = Number c.admin_idle_ms
value_of c key.ClientIdleMs = optional_number c.client_idle_ms
value_of c key.FrameMs = Number c.frame_ms
value_of c key.ServerSilentMs = optional_number c.server_silent_ms
value_of c key.Operator = optional_address c.operator
value_of c key.MetricsHttp = optional_address c.metrics_http
value_of c key.ReconnectMs = optional_number c.reconnect_ms
value_of c key.EjectAfter = optional_number c.eject_after
value_of c key.EjectMs = Number c.eject_ms
value_of c key.Threads = Number c.threads
value_of c key.Recorded = Number c.recorded
value_of c key.Audit = Audit c.audit
value_of c _ = Unset

-- a key without a value stands in a comment
abbrev pub setting : (name : List ℕ) → Value → List ℕ
setting name (Number n) = name ++ (codes " = " ++ decimal n)
setting name (Address a) = name ++ (codes " = \"" ++ (socket_text a ++ codes "\""))
setting name (Audit mode) = name ++ (codes " = \"" ++ (audit_text mode ++ codes "\""))
setting name Unset = codes "# " ++ (name ++ codes " = none")

-- in the order of the manual
abbrev pub shown_keys : List Key
shown_keys =
    key.Listen ∷ key.Admin ∷ key.Audit ∷ key.ReconnectMs ∷ key.Clients ∷ key.Sessions ∷ key.ClientIdleMs
    ∷ key.ServerSilentMs ∷ key.EjectAfter ∷ key.EjectMs ∷ key.Window ∷ key.Out ∷ key.History
    ∷ key.ServerWindow ∷ key.ServerOut ∷ key.ServerHistory ∷ key.OutBytes ∷ key.MaxFrame ∷ key.Operator
    ∷ key.MetricsHttp ∷ key.Retries ∷ key.Boot ∷ key.TickMs ∷ key.FrameMs ∷ key.AdminIdleMs ∷ key.Threads
    ∷ key.Recorded ∷ []

-- THE ARRAYS: each table is several lines, whose last line feed stands behind it

abbrev pub address_text : Option SocketAddr → List ℕ
address_text (Some address) = socket_text address
address_text None = codes "none"

abbrev pub server_table : Server → List ℕ
server_table s =
    codes "[[server]]\nname = \"" ++ (string_bytes s.name ++ (codes "\"\naddress = \"" ++ (address_text s.address
    ++ (codes "\"\ninit = \"" ++ (init_text s.init ++ codes "\"")))))

abbrev pub name_in : Option Server → List ℕ
name_in (Some s) = string_bytes s.name
name_in None = []

-- the name of the server at a place
abbrev pub name_at : List Server → ℕ → List ℕ
name_at servers place = name_in (slice_get servers place)

abbrev pub names_line : List Server → Route → List ℕ
names_line servers r =
    codes "\"\nservers = [\"" ++ (join_by (name_at servers) (codes "\", \"") r.servers.items ++ codes "\"]")

abbrev pub route_table : List Server → Route → List ℕ
route_table servers r =
    codes "[[route]]\ndst = \"" ++ (flat_map toml_byte (string_bytes r.dst) ++ names_line servers r)

abbrev pub config_lines : Config → List (List ℕ)
config_lines c =
    map (λ key. setting (name_of key) (value_of c key)) shown_keys
    ++ (map server_table c.servers.items ++ (map (route_table c.servers.items) c.routes.items ++ (codes "# end" ∷ [])))
