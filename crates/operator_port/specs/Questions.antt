-- The line that asks a question.
use Rattle.std.specs.Prelude.{◌≡◌, ◌≤◌, ◌⊎◌, ℕ, List, [], ◌∷◌, ◌++◌, IsTrue, codes, Some}
use Rattle.std.specs.declared.net.socket_addr.SocketAddr.{SocketAddr}
use Rattle.std.specs.declared.net.socket_addr.SocketAddr.TheVariants.{V4}
use Rattle.mux_history.specs.declared.session.InitMode.{InitMode}
use Rattle.mux_history.specs.declared.session.InitMode.TheVariants.{Probe, Plain}
use Rattle.route_table.specs.Address.{address_of}
use Rattle.line_session.specs.Words.{Writes, is_name, lacks}
use Rattle.operator_port.specs.declared.question.Question.{Question}
use Rattle.operator_port.specs.declared.question.Question.TheVariants as question

-- a question, with a name as bytes
pub data Query : Type 0 where
  help : Query
  health : Query
  routes : Query
  servers : Query
  server : (name : List ℕ) → SocketAddr → InitMode → Query
  forget : List ℕ → Query
  drain_all : Query
  rejoin : List ℕ → Query
  cut : List ℕ → Query
  stop : (seconds : ℕ) → Query
  events : Query
  full : Query
  config : Query
  metrics : Query
  script : Query

abbrev pub view : Question → Query
view question.Help = help
view question.Health = health
view question.Routes = routes
view question.Servers = servers
view (question.Server name address init) = server name.now address init
view (question.Forget name) = forget name.now
view question.DrainAll = drain_all
view (question.Rejoin name) = rejoin name.now
view (question.Cut name) = cut name.now
view (question.Stop seconds) = stop seconds
view question.Events = events
view question.Full = full
view question.Config = config
view question.Metrics = metrics
view question.Record = script

-- the line of a word, with its space, and a server's name
abbrev pub Names : (word name line : List ℕ) → Type 0
Names word name line = (line ≡ word ++ name) × IsTrue (is_name name)

-- the line `stop N`, with an hour at most
abbrev pub StopsIn : ℕ → List ℕ → Type 0
StopsIn seconds line = (digits : List ℕ) × (line ≡ codes "stop " ++ digits) × Writes digits seconds × (seconds ≤ 3600)

-- what stands behind the address of a server whose session is open at once, and of another
abbrev pub init_end : InitMode → List ℕ
init_end Probe = []
init_end Plain = codes " plain"

-- a text that spells an address as in a configuration, and what stands behind it
abbrev pub Stands : SocketAddr → InitMode → (place : List ℕ) → Type 0
Stands address init place =
    (text : List ℕ) × (place ≡ text ++ init_end init) × IsTrue (lacks 32 text) × (address_of text ≡ Some address)

-- the line `server NAME ADDRESS`, with ` plain` behind it or not
abbrev pub Places : (name : List ℕ) → SocketAddr → InitMode → (line : List ℕ) → Type 0
Places name address init line =
    (place : List ℕ) × (line ≡ codes "server " ++ (name ++ (32 ∷ place))) × IsTrue (is_name name)
    × Stands address init place

-- the line of a question, as `help` has it: with N for a number
abbrev pub line_of : Query → List ℕ
line_of help = codes "help"
line_of health = codes "health"
line_of routes = codes "routes"
line_of servers = codes "servers"
line_of (server name address init) = codes "server NAME ADDRESS [plain]"
line_of (forget name) = codes "forget " ++ name
line_of drain_all = codes "drain all"
line_of (rejoin name) = codes "rejoin " ++ name
line_of (cut name) = codes "cut " ++ name
line_of (stop seconds) = codes "stop N"
line_of events = codes "events"
line_of full = codes "status full"
line_of config = codes "config"
line_of metrics = codes "metrics"
line_of script = codes "record"

-- a line asks a question if it is its line, and the name there can be a server's; `stop` alone has half a minute
abbrev pub Spells : Query → List ℕ → Type 0
Spells (rejoin name) line = Names (codes "rejoin ") name line
Spells (cut name) line = Names (codes "cut ") name line
Spells (forget name) line = Names (codes "forget ") name line
Spells (server name address init) line = Places name address init line
Spells (stop seconds) line = ((line ≡ codes "stop") × (seconds ≡ 30)) ⊎ StopsIn seconds line
Spells query line = line ≡ line_of query

-- a line asks one question at most
abbrev pub SpellsOne : List ℕ → Type 0
SpellsOne line = (one other : Query) → Spells one line → Spells other line → one ≡ other

-- a line of a word and what stands behind it
abbrev pub AsksByWords : List ℕ → Type 0
AsksByWords line =
    ((name : List ℕ) × Names (codes "rejoin ") name line) ⊎ ((name : List ℕ) × Names (codes "cut ") name line)
    ⊎ ((name : List ℕ) × Names (codes "forget ") name line)
    ⊎ ((name : List ℕ) × (address : SocketAddr) × (init : InitMode) × Places name address init line)
    ⊎ ((seconds : ℕ) × StopsIn seconds line)

abbrev nowhere : SocketAddr
nowhere = V4 (record { ip = record { octets = 0 ∷ 0 ∷ 0 ∷ 0 ∷ [] }; port = 0 })

-- in the order of `help`, with a word for a name
abbrev pub questions : List Query
questions =
    help ∷ health ∷ routes ∷ servers ∷ server (codes "NAME") nowhere Probe ∷ forget (codes "NAME") ∷ drain_all ∷ rejoin (codes "NAME") ∷ cut (codes "NAME") ∷ stop 30 ∷ events ∷ full
    ∷ config ∷ metrics ∷ script ∷ []
