-- A map from destinations to lists of servers.
use Rattle.std.specs.Prelude.{Vec, map, ◌≡◌, ℕ, List, [], ◌∷◌, length, Option, Some, None, Bool, true, not, ◌&&◌, ◌==◌, nat_le, IfSome, IsTrue, if◌then◌else◌}
use Rattle.std.specs.List.{list_any}
use Rattle.std.specs.Str.{bytes_eq}
use Rattle.std.specs.declared.alloc.Global.{Global}
use Rattle.std.specs.declared.hash.FoldHasher.{FoldHasher}
use Rattle.std.specs.declared.hash.BuildHasherDefault.{BuildHasherDefault}
use Rattle.indexmap.specs.IndexMap.{IndexMap}
use Rattle.route_table.specs.declared.routes.Routing.{Routing}

-- no server stands in the list twice
abbrev pub none_twice : List ℕ → Bool
none_twice [] = true
none_twice (server ∷ rest) = not (list_any (λ other. other == server) rest) && none_twice rest

-- the servers of a route: 1 to 64, none twice
abbrev pub is_server_list : List ℕ → Bool
is_server_list servers = (nat_le 1 (length servers) && nat_le (length servers) 64) && none_twice servers

-- the servers of a destination, in a list of routes
abbrev pub servers_of : List (List ℕ × List ℕ) → List ℕ → Option (List ℕ)
servers_of [] dst = None
servers_of (route ∷ routes) dst = if bytes_eq dst route.0 then Some route.1 else servers_of routes dst

abbrev pub AreServerLists : List (List ℕ × List ℕ) → Type 0
AreServerLists routes = (dst : List ℕ) → IfSome (servers_of routes dst) (λ servers. IsTrue (is_server_list servers))

pub data Change : Type 0 where
  set : List ℕ → List ℕ → Change
  remove : List ℕ → Change

-- the servers of a destination that were set last and not removed since; the newest change stands in front
abbrev pub last_set : List Change → List ℕ → Option (List ℕ)
last_set [] dst = None
last_set (set changed servers ∷ past) dst = if bytes_eq dst changed then Some servers else last_set past dst
last_set (remove changed ∷ past) dst = if bytes_eq dst changed then None else last_set past dst

-- these changes, made to no routes, lead to the routes
abbrev pub LeadsTo : List Change → List (List ℕ × List ℕ) → Type 0
LeadsTo past routes = (dst : List ℕ) → servers_of routes dst ≡ last_set past dst

-- the routes that a map holds
abbrev pub routes_in : IndexMap (Vec ℕ Global) (Vec ℕ Global) (BuildHasherDefault FoldHasher) → List (List ℕ × List ℕ)
routes_in lists = map (λ e. (e.0.items, e.1.items)) lists.entries

-- what is listed of a route
abbrev pub routing : Routing → List ℕ × List ℕ
routing r = (r.dst.items, r.servers.items)
