-- What of a batch is left, once its values were handed to the sessions of a hub.
use Rattle.std.specs.Prelude.{◌≡◌, ◌<◌, ◌-◌, ◌%◌, ◌&&◌, ℕ, List, length, Option, Some, None, if◌then◌else◌, nat_lt}
use Rattle.hub_base.specs.Batching.{Batched}
use Rattle.hub_base.specs.Errands.{errand_at}
use Rattle.hub_base.specs.declared.errands.Errand.{Errand}
use Rattle.hub_base.specs.declared.errands.Value.{Value}
use Rattle.hub_base.specs.declared.errands.Value.TheVariants as value

-- the same frames wait, and as many values are in hand
abbrev pub KeepsBatch : (old new : Batched) → Type 0
KeepsBatch old new =
    (new.frames ≡ old.frames) × (length new.errands ≡ length old.errands) × (new.room ≡ old.room)

-- a hub with so many slots for clients has one for this client: they are numbered from 1
abbrev pub HasClient : (slots client : ℕ) → Type 0
HasClient slots client = (0 < client) × (0 < slots)

-- the place of its slot: each of them serves one client after another
abbrev pub client_place : (slots client : ℕ) → Option ℕ
client_place slots client = if nat_lt 0 client && nat_lt 0 slots then Some ((client - 1) % slots) else None

-- the same of a server's sessions, which are numbered from 0
abbrev pub HasServer : (slots server : ℕ) → Type 0
HasServer slots server = 0 < slots

abbrev pub server_place : (slots server : ℕ) → Option ℕ
server_place slots server = if nat_lt 0 slots then Some (server % slots) else None

-- the value at this place is for none of the sessions that there are; a word tells for whom a value is
abbrev pub NoneAt : (ℕ → Value → Option ℕ) → (Has : ℕ → Type 0) → List Errand → ℕ → Type 0
NoneAt of Has errands at = (n : ℕ) → of (errand_at errands at).to (errand_at errands at).value ≡ Some n → Has n → ⊥

-- what is for a session, by such a word, was for it before, at the place where it stands
abbrev pub NoMore : (ℕ → Value → Option ℕ) → (old new : List Errand) → Type 0
NoMore of old new =
    (i n : ℕ) → of (errand_at new i).to (errand_at new i).value ≡ Some n
    → of (errand_at old i).to (errand_at old i).value ≡ Some n

-- the client to whom a reply goes
abbrev pub reply_of : ℕ → Value → Option ℕ
reply_of to (value.Reply settled) = Some to
reply_of to _ = None

-- the server to which a dispatch is to be offered
abbrev pub offer_of : ℕ → Value → Option ℕ
offer_of to (value.Ticket ticket) = Some to
offer_of to _ = None

-- the server that refused a dispatch
abbrev pub refused_of : ℕ → Value → Option ℕ
refused_of to (value.Refused by ticket) = Some by
refused_of to _ = None

-- no dispatch that a server refused is left at this place
abbrev pub NoneRefused : List Errand → ℕ → Type 0
NoneRefused errands at = NoneAt refused_of (λ by. Unit {0}) errands at

-- what was made of a value is no reply and no dispatch to be offered, unless the value was it
abbrev pub LessThan : (old new : Errand) → Type 0
LessThan old new =
    ((n : ℕ) → reply_of new.to new.value ≡ Some n → reply_of old.to old.value ≡ Some n)
    × ((n : ℕ) → offer_of new.to new.value ≡ Some n → offer_of old.to old.value ≡ Some n)
