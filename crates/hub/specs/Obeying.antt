-- What an order makes of the orders that its seat knows, and what it is answered with.
use Rattle.std.specs.Prelude.{◌≡◌, ◌<◌, ◌≤◌, ◌⊎◌, ℕ, IsTrue, List, None, String, false, length, string_bytes}
use Rattle.std.specs.declared.alloc.Global.{Global}
use Rattle.route_table.specs.Routes.{Change, is_server_list, set}
use Rattle.published_routes.specs.Orders.{Gave, HasNoRoute, Removes}
use Rattle.hub.specs.declared.admin.AdminOrder.{AdminOrder}
use Rattle.hub.specs.declared.admin.AdminOrder.TheVariants.{Status, DrainClient, Retire, Route, Unroute, Quit}
use Rattle.hub.specs.declared.admin.AdminReply.{AdminReply}
use Rattle.hub.specs.declared.admin.AdminReply.TheVariants as replies
use Rattle.hub.specs.declared.admin.OrderFault.{OrderFault}
use Rattle.hub.specs.declared.admin.OrderFault.TheVariants as faults
use Rattle.hub.specs.declared.admin.OrderRefusal.TheVariants as refusals
use Rattle.hub.specs.declared.hub.Known.{Known}
use Rattle.hub.specs.Reporting.{AreRows}
use Rattle.hub.specs.Naming.{AreNamed, HasUnknown, place_of}
use Rattle.hub.specs.Seats.{Orders}

-- a route to the servers of these names, 1 to 64, none twice, is added to all that there were
abbrev pub AddsRoute : List Known → List Change → (dst : List ℕ) → (names : List (String Global)) → List Change → Type 0
AddsRoute known old dst names new =
    (servers : List ℕ) × AreNamed known names servers × IsTrue (is_server_list servers) × Gave old (set dst servers) new

-- a route is added, or taken away; other orders leave the routes alone
abbrev pub Obeys : List Known → AdminOrder → Orders → Orders → Type 0
Obeys known (Route dst names) s t = AddsRoute known s.orders dst.items names.items t.orders
Obeys known (Unroute dst) s t = Removes s.orders dst.items t.orders
Obeys known Status s t = t ≡ s
Obeys known (DrainClient client) s t = (t.orders ≡ s.orders) × (s.amount ≤ t.amount)
Obeys known (Retire name) s t = (t.orders ≡ s.orders) × (s.amount ≤ t.amount)
Obeys known Quit s t = t ≡ s

-- the answer that goes with an order, of a hub with this boot and so many slots for clients and for servers
abbrev pub IsReplyTo : (boot clients servers : ℕ) → AdminOrder → AdminReply → Type 0
IsReplyTo boot clients servers Status (replies.Report number rows) =
    (number ≡ boot) × AreRows clients servers rows.items
IsReplyTo boot clients servers Status reply = ⊥
IsReplyTo boot clients servers (DrainClient client) reply = reply ≡ replies.Done
IsReplyTo boot clients servers (Retire name) reply = reply ≡ replies.Done
IsReplyTo boot clients servers (Route dst names) reply = reply ≡ replies.Done
IsReplyTo boot clients servers (Unroute dst) reply = reply ≡ replies.Done
IsReplyTo boot clients servers Quit reply = reply ≡ replies.Bye

-- THE FAULTS that an order may be answered with, and when

abbrev pub MayNotDrain : OrderFault → Type 0
MayNotDrain faults.NoSuchSession = Unit {0}
MayNotDrain (faults.Refused (refusals.Drain refusal)) = Unit {0}
MayNotDrain fault = ⊥

abbrev pub MayNotRetire : List Known → (name : List ℕ) → OrderFault → Type 0
MayNotRetire known name faults.UnknownServer = place_of known name ≡ None
MayNotRetire known name (faults.Refused (refusals.Retire refusal)) = Unit {0}
MayNotRetire known name fault = ⊥

-- servers that no route may have are a bad command; else only memory may be short
abbrev pub MayNotPublish : (servers : List ℕ) → OrderFault → Type 0
MayNotPublish servers faults.BadCommand = is_server_list servers ≡ false
MayNotPublish servers faults.Memory = IsTrue (is_server_list servers)
MayNotPublish servers fault = ⊥

-- More than 64 names are a bad command. Else each has to be a server's, and then these are a bad command if they are
-- none, or one twice; else only memory may be short.
abbrev pub MayNotRoute : List Known → (names : List (String Global)) → OrderFault → Type 0
MayNotRoute known names faults.BadCommand =
    (64 < length names) ⊎ ((servers : List ℕ) × AreNamed known names servers × (is_server_list servers ≡ false))
MayNotRoute known names faults.UnknownServer = (length names ≤ 64) × HasUnknown known names
MayNotRoute known names faults.Memory =
    (servers : List ℕ) × AreNamed known names servers × IsTrue (is_server_list servers)
MayNotRoute known names fault = ⊥

abbrev pub MayNotUnroute : List Change → (dst : List ℕ) → OrderFault → Type 0
MayNotUnroute orders dst faults.NoRoute = HasNoRoute orders dst
MayNotUnroute orders dst faults.Memory = Unit {0}
MayNotUnroute orders dst fault = ⊥

abbrev pub MayFail : List Known → AdminOrder → Orders → OrderFault → Type 0
MayFail known Status s fault = fault ≡ faults.Memory
MayFail known (DrainClient client) s fault = MayNotDrain fault
MayFail known (Retire name) s fault = MayNotRetire known (string_bytes name) fault
MayFail known (Route dst names) s fault = MayNotRoute known names.items fault
MayFail known (Unroute dst) s fault = MayNotUnroute s.orders dst.items fault
MayFail known Quit s fault = ⊥
