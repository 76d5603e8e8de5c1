-- Sessions that are opened before their first records.
use Rattle.std.specs.Prelude.{ℕ, List, ◌∷◌, ◌≡◌, Bool, true, false, if◌then◌else◌, ◌&&◌, ◌||◌, is_none, is_some, map, nat_lt, not, reverse, length, unwrap_or}
use Rattle.std.specs.List.{enumerate_from}
use Rattle.mux_history.specs.declared.session.InitMode.{InitMode}
use Rattle.mux_history.specs.declared.session.InitMode.TheVariants.{Plain}
use Rattle.mux_history.specs.declared.session.SessionId.{SessionId}
use Rattle.mux_history.specs.declared.session.SessionId.TheVariants.{Client, Server}
use Rattle.mux_agree.specs.Walk.{Kept}
use Rattle.rolling_audit.specs.declared.rolling.RollingAudit.{RollingAudit}
use Rattle.rolling_audit.specs.declared.fault.RollingFault.TheVariants.{NotOpen}
use Rattle.rolling_audit.specs.Histories.{same_session, unwritten}
use Rattle.rolling_audit.specs.Slots.{at_place, lasts_with, used_in}
use Rattle.rolling_audit.specs.Taken.{IsTaken, trail_of}
use Rattle.rolling_audit.specs.declared.run_fault.RunFault.{RunFault}
use Rattle.rolling_audit.specs.declared.run_fault.RunFault.TheVariants.{Memory, Rolling}

-- a session that wasn't opened yet: a client whose number isn't used, a server that isn't open
abbrev pub is_new : RollingAudit → SessionId → Bool
is_new a (Client k) = not (used_in a.lasts.items k)
is_new a (Server k) = is_none (trail_of a (Server k))

-- the mode of a session: a server has that of its slot
abbrev pub mode_of : (modes : List InitMode) → SessionId → InitMode
mode_of modes (Client k) = Plain
mode_of modes (Server k) = unwrap_or (at_place modes k) Plain

-- a session that is opened stands before its first record, in front of the others
abbrev pub begun_with : (modes : List InitMode) → (opens : Bool) → SessionId → List Kept → List Kept
begun_with modes opens id hs = if opens then unwritten id (mode_of modes id) ∷ hs else hs

abbrev pub lasts_if : (opens : Bool) → SessionId → List ℕ → List ℕ
lasts_if opens id lasts = if opens then lasts_with id lasts else lasts

-- all servers before their first records, the last first
abbrev pub fresh_server : ℕ × InitMode → Kept
fresh_server s = unwritten (Server s.0) s.1

abbrev pub fresh_servers : List InitMode → List Kept
fresh_servers modes = reverse (map fresh_server (enumerate_from 0 modes))

abbrev pub IsOpen : RollingAudit → SessionId → Type 0
IsOpen a id = is_some (trail_of a id) ≡ true

-- each of the first servers is open, and no other session
abbrev pub is_first : (servers : ℕ) → SessionId → Bool
is_first servers (Client k) = false
is_first servers (Server k) = nat_lt k servers

abbrev pub AreFirstOpen : RollingAudit → List InitMode → Type 0
AreFirstOpen a modes = (id : SessionId) → is_some (trail_of a id) ≡ is_first (length modes) id

-- a session was opened
abbrev pub IsBegun : RollingAudit → SessionId → Type 0
IsBegun a id = is_new a id ≡ false

-- each session that is there is open, once it was opened
abbrev pub AreBegun : (SessionId → Bool) → RollingAudit → Type 0
AreBegun there a = (id : SessionId) → there id ≡ true → IsBegun a id → IsOpen a id

-- the same sessions are open, and this one if it is opened
abbrev pub OpenWith : (opens : Bool) → SessionId → RollingAudit → RollingAudit → Type 0
OpenWith opens id old new =
    (q : SessionId) → is_some (trail_of new q) ≡ ((opens && same_session id q) || is_some (trail_of old q))

-- a session is opened, or nothing changes but room
pub record OpensIf (modes : List InitMode) (opens : Bool) (id : SessionId) (old new : RollingAudit) : Type 0 where
  pub lasts : new.lasts.items ≡ lasts_if opens id old.lasts.items
  pub taken : (hs : List Kept) → IsTaken hs old → IsTaken (begun_with modes opens id hs) new
  pub trails : OpenWith opens id old new
  pub boot : new.lives.boot ≡ old.lives.boot

-- out of memory is the only error of an audit that belongs to histories
abbrev pub IsNoRoom : RunFault → RollingAudit → Type 0
IsNoRoom Memory a = Unit
IsNoRoom (Rolling (NotOpen id)) a = (hs : List Kept) → IsTaken hs a → ⊥
IsNoRoom _ a = ⊥
