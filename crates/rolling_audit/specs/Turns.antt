-- Which epoch of each session is next.
use Rattle.std.specs.Prelude.{ℕ, List, ◌≡◌, ◌≤◌, ◌<◌, ◌==◌, ◌-◌, ◌^◌, ◌&&◌, Bool, false, Option, Some, None, if◌then◌else◌, is_none, map, nat_lt, length, slice_get, slice_set}
use Rattle.mux_history.specs.declared.session.SessionId.{SessionId}
use Rattle.mux_history.specs.declared.session.SessionId.TheVariants.{Client, Server}
use Rattle.rolling_audit.specs.Histories.{same_session}
use Rattle.rolling_audit.specs.Slots.{at_place, at_slot, lasts_with, place_of, share_place, share_slot, slot_of}
use Rattle.rolling_audit.specs.declared.turns.Present.{Present}
use Rattle.rolling_audit.specs.declared.turns.Progress.{Progress}
use Rattle.rolling_audit.specs.declared.turns.Turns.{Turns}

-- the first epoch is next
abbrev pub first_turn : Progress
first_turn = record { epoch = 0; within = 0 }

-- what is next for a session of a slot: for the slot's present one; for one with a greater number once that has ended
abbrev pub next_behind : Present → (number : ℕ) → Option Progress
next_behind e k =
    if e.number == k then e.next else if nat_lt e.number k && is_none e.next then Some first_turn else None

abbrev pub next_at : Option Present → (number : ℕ) → Option Progress
next_at None k = None
next_at (Some e) k = next_behind e k

-- how far the records of a session were taken
abbrev pub next_in : Turns → SessionId → Option Progress
next_in t (Client k) = next_at (at_slot t.clients.items k) k
next_in t (Server k) = next_at (at_place t.servers.items k) k

-- before any record: clients, numbered from 1, have so many slots, and so many servers, numbered from 0, are there, each
-- the first in its slot
abbrev pub is_there : (slots servers : ℕ) → SessionId → Bool
is_there slots servers (Client k) = nat_lt 0 k && nat_lt 0 slots
is_there slots servers (Server k) = nat_lt k servers

abbrev pub begins_at : (slots servers : ℕ) → SessionId → Option Progress
begins_at slots servers id = if is_there slots servers id then Some first_turn else None

-- a history of so many records is that of the epoch that is next, and so many were taken; an epoch can follow it
pub record IsTurn (t : Turns) (id : SessionId) (epoch len within : ℕ) : Type 0 where
  pub next : next_in t id ≡ Some (record { epoch = epoch; within = within })
  pub reaches : within ≤ len
  pub followed : epoch < 2 ^ 32 - 1

-- how many there are
pub record Slots : Type 0 where
  pub clients : ℕ
  pub servers : ℕ

abbrev pub slots_of : Turns → Slots
slots_of t = record { clients = length t.clients.items; servers = length t.servers.items }

-- the numbers of the slots' present clients
abbrev pub numbers_of : Turns → List ℕ
numbers_of t = map (λ e. e.number) t.clients.items

-- two sessions of one slot
abbrev pub are_of_slot : Slots → SessionId → SessionId → Bool
are_of_slot slots (Client j) (Client k) = share_slot slots.clients j k
are_of_slot slots (Server j) (Server k) = share_place slots.servers j k
are_of_slot slots _ _ = false

-- this is next for a session, which is the present one of its slot then: there is none for others of the slot, and what
-- is next for others stays
abbrev pub next_beside : Slots → SessionId → Progress → SessionId → Option Progress → Option Progress
next_beside slots id p q next =
    if same_session id q then Some p else if are_of_slot slots id q then None else next

pub record Sets (old : Turns) (id : SessionId) (p : Progress) (new : Turns) : Type 0 where
  pub slots : slots_of new ≡ slots_of old
  pub numbers : numbers_of new ≡ lasts_with id (numbers_of old)
  pub next : (q : SessionId) → next_in new q ≡ next_beside (slots_of old) id p q (next_in old q)

-- a session has ended: those of its slot with greater numbers have their first turn, and there is none for the others
abbrev pub comes_behind : SessionId → SessionId → Bool
comes_behind (Client j) (Client k) = nat_lt j k
comes_behind (Server j) (Server k) = nat_lt j k
comes_behind _ _ = false

abbrev pub next_after : Slots → SessionId → SessionId → Option Progress → Option Progress
next_after slots id q next =
    if same_session id q then None
    else if are_of_slot slots id q then (if comes_behind id q then Some first_turn else None) else next

pub record Closes (old : Turns) (id : SessionId) (new : Turns) : Type 0 where
  pub slots : slots_of new ≡ slots_of old
  pub numbers : numbers_of new ≡ lasts_with id (numbers_of old)
  pub next : (q : SessionId) → next_in new q ≡ next_after (slots_of old) id q (next_in old q)

-- this was put in the place of a session
abbrev pub clients_with : SessionId → Option Progress → List Present → List Present
clients_with (Client k) next es = slice_set es (slot_of (length es) k) (record { number = k; next = next })
clients_with (Server k) next es = es

abbrev pub servers_with : SessionId → Option Progress → List Present → List Present
servers_with (Client k) next es = es
servers_with (Server k) next es = slice_set es (place_of (length es) k) (record { number = k; next = next })

pub record Puts (old : Turns) (id : SessionId) (next : Option Progress) (new : Turns) : Type 0 where
  pub clients : new.clients.items ≡ clients_with id next old.clients.items
  pub servers : new.servers.items ≡ servers_with id next old.servers.items

-- so many servers, each the first in its slot
abbrev pub AreFirst : List Present → ℕ → Type 0
AreFirst es n =
    (length es ≡ n) × ((k : ℕ) → k < n → slice_get es k ≡ Some (record { number = k; next = Some first_turn }))
