-- The servers and the routes of a configuration.
use Rattle.std.specs.Prelude.{ℕ, ◌==◌, nat_le, List, [], ◌∷◌, ◌++◌, length, Bool, true, false, not, is_some, ◌&&◌, ◌||◌, codes, Option, Some, None, ok_or, Result, Ok, Err, if◌then◌else◌}
use Rattle.std.specs.List.{list_any, list_all, position}
use Rattle.std.specs.Option.{option_map}
use Rattle.std.specs.Str.{bytes_eq}
use Rattle.std.specs.declared.net.socket_addr.SocketAddr.{SocketAddr}
use Rattle.mux_history.specs.declared.session.InitMode.{InitMode}
use Rattle.mux_history.specs.declared.session.InitMode.TheVariants.{Probe, Plain}
use Rattle.toml.specs.Data.{Data, string, table, Items, no_items, item, Members, as_table, as_array}
use Rattle.route_table.specs.declared.key.Key.{Key}
use Rattle.route_table.specs.declared.key.Key.TheVariants.{Server, ServerName, ServerAddress, ServerInit, Route, RouteDst, RouteServers}
use Rattle.route_table.specs.Fault.{Fault, missing, bad_value, unknown_server, double_name, double_route, and_then}
use Rattle.route_table.specs.Table.{value_at, text_at, is_text, address_in, some_address, word_at}

-- the items as a list
abbrev pub datas : Items → List Data
datas no_items = []
datas (item d ds) = d ∷ datas ds

abbrev pub unless : {A : Type 0} → Option Fault → Result A Fault → Result A Fault
unless (Some fault) result = Err fault
unless None result = result

-- what the entries read as, one after another behind those before; `clash` is what an entry may have against those
-- before it
abbrev pub each : {A : Type 0} → (Data → Result A Fault) → (A → List A → Option Fault) → List A → List Data
    → Result (List A) Fault
each read clash before [] = Ok before
each read clash before (entry ∷ rest) =
    and_then (read entry) (λ a. unless (clash a before) (each read clash (before ++ a ∷ []) rest))

abbrev pub is_table : Data → Bool
is_table d = is_some (as_table d)

-- the items of a value that is an array
abbrev pub list_of : Data → Option (List Data)
list_of d = option_map datas (as_array d)

abbrev pub tables_in : Key → ℕ → Option (List Data) → Result (List Data) Fault
tables_in key most None = Err (bad_value key)
tables_in key most (Some entries) =
    if nat_le (length entries) most && list_all is_table entries then Ok entries else Err (bad_value key)

-- the entries of an array of tables: none where it isn't there
abbrev pub tables_of : Key → ℕ → Option Data → Result (List Data) Fault
tables_of key most None = Ok []
tables_of key most (Some d) = tables_in key most (list_of d)

unfoldable pub tables_at : Members → Key → ℕ → Result (List Data) Fault
tables_at doc key most = tables_of key most (value_at doc key)

-- a to z, 0 to 9 and -
abbrev pub is_name_byte : ℕ → Bool
is_name_byte b = ((nat_le 97 b && nat_le b 122) || (nat_le 48 b && nat_le b 57)) || b == 45

-- a server's name: 1 to 64 of these
abbrev pub is_name : List ℕ → Bool
is_name text = (nat_le 1 (length text) && nat_le (length text) 64) && list_all is_name_byte text

abbrev pub name_in : List ℕ → Result (List ℕ) Fault
name_in text = if is_name text then Ok text else Err (bad_value ServerName)

unfoldable pub name_at : Members → Result (List ℕ) Fault
name_at doc = and_then (text_at doc ServerName) name_in

-- an address, or none yet
abbrev pub server_address_in : List ℕ → Result (Option SocketAddr) Fault
server_address_in text =
    if bytes_eq text (codes "none") then Ok None else and_then (address_in ServerAddress text) some_address

unfoldable pub server_address_at : Members → Result (Option SocketAddr) Fault
server_address_at doc = and_then (text_at doc ServerAddress) server_address_in

-- how the session towards a server begins
abbrev pub init_at : Members → Result InitMode Fault
init_at doc = word_at doc ServerInit (codes "probe", Probe) (codes "plain", Plain)

pub record ServerView : Type 0 where
  pub name : List ℕ
  pub address : Option SocketAddr
  pub init : InitMode

unfoldable pub server_in : Members → Result ServerView Fault
server_in doc =
    and_then (name_at doc) λ name.
    and_then (server_address_at doc) λ address.
    and_then (init_at doc) λ init.
    Ok (record { name = name; address = address; init = init })

abbrev pub server_of : Data → Result ServerView Fault
server_of (table doc) = server_in doc
server_of _ = Err (bad_value Server)

-- the server of this name
abbrev pub is_named : List ℕ → ServerView → Bool
is_named name server = bytes_eq server.name name

abbrev pub name_clash : ServerView → List ServerView → Option Fault
name_clash server before =
    if is_some (position (is_named server.name) before) then Some (double_name server.name) else None

unfoldable pub servers_in : Members → Result (List ServerView) Fault
servers_in doc = and_then (tables_at doc Server 256) (each server_of name_clash [])

pub record RouteView : Type 0 where
  pub dst : List ℕ
  pub servers : List ℕ

-- a destination: at most 65,535 bytes
abbrev pub is_dst : List ℕ → Bool
is_dst text = nat_le (length text) 65535

abbrev pub dst_in : List ℕ → Result (List ℕ) Fault
dst_in text = if is_dst text then Ok text else Err (bad_value RouteDst)

unfoldable pub dst_at : Members → Result (List ℕ) Fault
dst_at doc = and_then (text_at doc RouteDst) dst_in

-- texts, none twice
abbrev pub are_texts : List Data → Bool
are_texts [] = true
are_texts (string text ∷ rest) = not (list_any (is_text text) rest) && are_texts rest
are_texts (_ ∷ rest) = false

abbrev pub are_names : List Data → Bool
are_names names = (nat_le 1 (length names) && nat_le (length names) 64) && are_texts names

abbrev pub names_in : Option (List Data) → Result (List Data) Fault
names_in None = Err (bad_value RouteServers)
names_in (Some names) = if are_names names then Ok names else Err (bad_value RouteServers)

abbrev pub names_of : Option Data → Result (List Data) Fault
names_of None = Err (missing RouteServers)
names_of (Some d) = names_in (list_of d)

unfoldable pub names_at : Members → Result (List Data) Fault
names_at doc = names_of (value_at doc RouteServers)

-- the place of the server of a name
abbrev pub place_of : List ServerView → Data → Result ℕ Fault
place_of servers (string name) = ok_or (position (is_named name) servers) (unknown_server name)
place_of servers _ = Err (bad_value RouteServers)

abbrev pub no_clash : ℕ → List ℕ → Option Fault
no_clash place before = None

unfoldable pub places_in : List ServerView → List Data → Result (List ℕ) Fault
places_in servers names = each (place_of servers) no_clash [] names

unfoldable pub route_in : List ServerView → Members → Result RouteView Fault
route_in servers doc =
    and_then (dst_at doc) λ dst.
    and_then (names_at doc) λ names.
    and_then (places_in servers names) λ places.
    Ok (record { dst = dst; servers = places })

abbrev pub route_of : List ServerView → Data → Result RouteView Fault
route_of servers (table doc) = route_in servers doc
route_of servers _ = Err (bad_value Route)

abbrev pub is_to : List ℕ → RouteView → Bool
is_to dst route = bytes_eq route.dst dst

abbrev pub dst_clash : RouteView → List RouteView → Option Fault
dst_clash route before = if list_any (is_to route.dst) before then Some (double_route route.dst) else None

unfoldable pub routes_in : List ServerView → Members → Result (List RouteView) Fault
routes_in servers doc = and_then (tables_at doc Route 4096) (each (route_of servers) dst_clash [])
