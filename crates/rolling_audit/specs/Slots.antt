-- The slots that clients take one after the other, each with a number above those before; servers do the same, of whom
-- the first has the number 0.
use Rattle.std.specs.Prelude.{ℕ, List, ◌==◌, ◌-◌, ◌%◌, Bool, true, Option, Some, None, if◌then◌else◌, nat_le, length, slice_get, slice_set}
use Rattle.mux_history.specs.declared.session.SessionId.{SessionId}
use Rattle.mux_history.specs.declared.session.SessionId.TheVariants.{Client, Server}

-- the slot of a server, among so many
abbrev pub place_of : (slots server : ℕ) → ℕ
place_of slots k = k % slots

abbrev pub share_place : (slots : ℕ) → (one other : ℕ) → Bool
share_place slots j k = place_of slots j == place_of slots k

-- what stands at the slot of a server
abbrev pub at_place : {A : Type 0} → List A → (server : ℕ) → Option A
at_place xs k = slice_get xs (place_of (length xs) k)

-- the slot of a client, among so many
abbrev pub slot_of : (slots client : ℕ) → ℕ
slot_of slots k = place_of slots (k - 1)

abbrev pub share_slot : (slots : ℕ) → (one other : ℕ) → Bool
share_slot slots j k = slot_of slots j == slot_of slots k

-- what stands at the slot of a client; 0 is no client's number
abbrev pub at_slot : {A : Type 0} → List A → (client : ℕ) → Option A
at_slot xs k = if k == 0 then None else at_place xs (k - 1)

-- a client was opened, or can't be opened any more: it has no slot, or its number isn't above the last one of its slot
abbrev pub is_passed : (last : Option ℕ) → (client : ℕ) → Bool
is_passed None k = true
is_passed (Some last) k = nat_le k last

abbrev pub used_in : (lasts : List ℕ) → (client : ℕ) → Bool
used_in lasts k = is_passed (at_slot lasts k) k

-- the last numbers of all slots, once this session was opened
abbrev pub lasts_with : SessionId → List ℕ → List ℕ
lasts_with (Client k) lasts = slice_set lasts (slot_of (length lasts) k) k
lasts_with (Server k) lasts = lasts
