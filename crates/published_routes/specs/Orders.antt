-- Lists of orders, the oldest first.
use Rattle.std.specs.Prelude.{ℕ, ◌≡◌, ◌<◌, List, [], ◌∷◌, ◌++◌, length, reverse, Option, Some, None, IsSome, string_bytes, if◌then◌else◌}
use mathlib.Core.List.{IsPrefix}
use Rattle.route_table.specs.Routes.{Change, set, remove, last_set, is_server_list}
use Rattle.route_table.specs.declared.route.Route.{Route}

-- a destination has these servers from now on, or none
abbrev pub change_to : List ℕ → Option (List ℕ) → Change
change_to dst (Some servers) = set dst servers
change_to dst None = remove dst

-- the servers of a destination after these orders
abbrev pub route_in : List ℕ → List Change → Option (List ℕ)
route_in dst orders = last_set (reverse orders) dst

-- ys begins with xs, and goes on
abbrev pub IsLonger : List Change → List Change → Type 0
IsLonger xs ys = IsPrefix xs ys × (length xs < length ys)

-- the orders that are known after an operation
abbrev pub after : List Change → Option (List Change) → List Change
after orders None = orders
after orders (Some later) = later

-- whoever knew the old orders has added this one to all that there were
abbrev pub Gave : List Change → Change → List Change → Type 0
Gave old change new = (before : List Change) × IsPrefix old before × (new ≡ before ++ change ∷ [])

-- and there was a route to this destination, which the order takes away
abbrev pub Removes : List Change → List ℕ → List Change → Type 0
Removes old dst new =
    (before : List Change) × IsPrefix old before × IsSome (route_in dst before) × Gave before (remove dst) new

-- after orders that begin with the known ones there is no route to this destination
abbrev pub HasNoRoute : List Change → List ℕ → Type 0
HasNoRoute known dst = (orders : List Change) × IsPrefix known orders × (route_in dst orders ≡ None)

-- a route of a configuration as an order; one with a list of servers that no route may have is passed over
abbrev pub with_route : List Change → Route → List Change
with_route orders route =
    if is_server_list route.servers.items then orders ++ set (string_bytes route.dst) route.servers.items ∷ []
    else orders

abbrev pub opened : List Change → List Route → List Change
opened orders [] = orders
opened orders (route ∷ routes) = opened (with_route orders route) routes

abbrev pub opening : List Route → List Change
opening routes = opened [] routes
