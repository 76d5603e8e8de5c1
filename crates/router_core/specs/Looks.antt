-- What can be read of a core: the values in hand, and how many dispatches a session holds.
use Rattle.std.specs.Prelude.{◌≡◌, ℕ, List, length, Option, Some, None, if◌then◌else◌, nat_le}
use Rattle.std.specs.Option.{option_map}
use Rattle.mux_message.specs.Content.{Content}
use Rattle.mux_message.specs.Grammar.{Spells}
use Rattle.mux_message.specs.Parts.{dst_of}
use Rattle.mux_history.specs.Bounds.{Bounds}
use Rattle.mux_history.specs.Readings.{book, sendings}
use Rattle.mux_history.specs.declared.record.Record.{Record}
use Rattle.mux_history.specs.declared.session.SessionId.{SessionId}
use Rattle.mux_history.specs.declared.session.SessionId.TheVariants.{Client, Server}
use Rattle.mux_model.specs.Steps.{Held, TicketOf, records}
use Rattle.mux_model.specs.World.{World, Connection, Hand}
use Rattle.mux_model.specs.Events.{hand_at, connection_at}
use Rattle.core_world.specs.declared.hands.HandKind.{HandKind}
use Rattle.core_world.specs.Hands.{shown}
use Rattle.core_world.specs.Sides.{session_at}
use Rattle.router_core.specs.Worlds.{CoreView}

abbrev pub kind_at : ℕ → List Hand → Option HandKind
kind_at k hands = option_map (λ h. (shown h).kind) (hand_at k hands)

-- only a ticket has a destination: that of the dispatch which its frame spells
abbrev pub IsDstOfHeld : Held → Option (List ℕ) → Type 0
IsDstOfHeld (TicketOf name frame left) dst = (said : Content) × Spells frame said × (dst_of said ≡ dst)
IsDstOfHeld _ dst = dst ≡ None

abbrev pub IsDstOf : Option Hand → Option (List ℕ) → Type 0
IsDstOf None dst = dst ≡ None
IsDstOf (Some h) dst = IsDstOfHeld h.held dst

-- a number of 32 bits
abbrev pub capped : ℕ → ℕ
capped n = if nat_le n 4294967295 then n else 4294967295

-- the records of the present epoch of a session of the core, the oldest first
abbrev pub records_in : {S : Type 0} → (S → List Record) → List S → ℕ → Option (List Record)
records_in of xs number = option_map of (session_at xs number)

abbrev pub records_at : CoreView → SessionId → Option (List Record)
records_at v (Client number) = records_in (λ s. s.records) v.clients number
records_at v (Server number) = records_in (λ s. s.records) v.servers number

-- the dispatches that a client waits for, and those that a server has
abbrev pub load_of : SessionId → Connection → ℕ
load_of (Client number) c = length (book (records c.steps))
load_of (Server number) c = length (sendings (records c.steps))

abbrev pub load_at : World → SessionId → Option ℕ
load_at w id = option_map (λ c. capped (load_of id c)) (connection_at w.boot id w.connections)

-- the load of one session of a list
abbrev pub LoadOfOne : {S : Type 0} → (Bounds → ℕ → S → Connection → Type 0) → (ℕ → SessionId) → List S → ℕ → Option ℕ
    → Type 0
LoadOfOne {S} P side xs number None = session_at xs number ≡ None
LoadOfOne {S} P side xs number (Some n) =
    (s : S) × (session_at xs number ≡ Some s)
    × ((limits : Bounds) (c : Connection) → P limits number s c → n ≡ capped (load_of (side number) c))
