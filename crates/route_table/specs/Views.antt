-- What servers, routes and whole configurations show.
use Rattle.std.specs.Prelude.{List, map, Option, Some, None, Result, Ok, Err, string_bytes}
use Rattle.toml.specs.Data.{Members}
use Rattle.route_table.specs.declared.settings.Settings.{Settings}
use Rattle.route_table.specs.declared.config.Config.{Config}
use Rattle.route_table.specs.declared.server.Server.{Server}
use Rattle.route_table.specs.declared.route.Route.{Route}
use Rattle.route_table.specs.Fault.{Fault, toml, and_then}
use Rattle.route_table.specs.Table.{settings_in}
use Rattle.route_table.specs.Entries.{ServerView, RouteView, servers_in, routes_in}

abbrev pub server_view : Server → ServerView
server_view server = record { name = string_bytes server.name; address = server.address; init = server.init }

abbrev pub servers_view : List Server → List ServerView
servers_view servers = map server_view servers

abbrev pub route_view : Route → RouteView
route_view route = record { dst = string_bytes route.dst; servers = route.servers.items }

abbrev pub routes_view : List Route → List RouteView
routes_view routes = map route_view routes

pub record ConfigView : Type 0 where
  pub settings : Settings
  pub servers : List ServerView
  pub routes : List RouteView

abbrev pub config_view : Config → ConfigView
config_view config = record {
  settings = record {
    listen = config.listen;
    admin = config.admin;
    boot = config.boot;
    max_frame = config.max_frame;
    window = config.window;
    out = config.out;
    history = config.history;
    server_window = config.server_window;
    server_out = config.server_out;
    server_history = config.server_history;
    out_bytes = config.out_bytes;
    clients = config.clients;
    sessions = config.sessions;
    retries = config.retries;
    tick_ms = config.tick_ms;
    admin_idle_ms = config.admin_idle_ms;
    client_idle_ms = config.client_idle_ms;
    frame_ms = config.frame_ms;
    server_silent_ms = config.server_silent_ms;
    operator = config.operator;
    metrics_http = config.metrics_http;
    reconnect_ms = config.reconnect_ms;
    eject_after = config.eject_after;
    eject_ms = config.eject_ms;
    threads = config.threads;
    recorded = config.recorded;
    audit = config.audit;
  };
  servers = servers_view config.servers.items;
  routes = routes_view config.routes.items;
}

-- the configuration that a document has, or its first fault: the keys outside the arrays, then the servers, then the
-- routes
unfoldable pub config_in : Members → Result ConfigView Fault
config_in doc =
    and_then (settings_in doc) λ settings.
    and_then (servers_in doc) λ servers.
    and_then (routes_in servers doc) λ routes.
    Ok (record { settings = settings; servers = servers; routes = routes })

-- and that of what a text reads as
abbrev pub config_of : Option Members → Result ConfigView Fault
config_of None = Err toml
config_of (Some doc) = config_in doc
