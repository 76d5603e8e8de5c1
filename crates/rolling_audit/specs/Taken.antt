-- What is kept of the records that were taken.
use Rattle.std.specs.Prelude.{ℕ, List, ◌≡◌, ◌≤◌, ◌<◌, slice_get, ◌==◌, ◌&&◌, Bool, true, false, Option, Some, None, if◌then◌else◌, nat_eq, length, reverse}
use Rattle.indexmap.specs.IndexMap.{get, spare}
use Rattle.mux_history.specs.declared.name.Name.{Name}
use Rattle.mux_history.specs.declared.record.Record.{Record}
use Rattle.mux_history.specs.declared.session.SessionId.{SessionId}
use Rattle.mux_history.specs.declared.session.SessionId.TheVariants.{Client, Server}
use Rattle.mux_history.specs.declared.kind.RecordKind.{RecordKind}
use Rattle.mux_agree.specs.Agree.{times}
use Rattle.mux_agree.specs.Walk.{Kept, all_records, client_records, place_at}
use Rattle.rolling_audit.specs.Stands.{Stands}
use Rattle.rolling_audit.specs.declared.rolling.RollingAudit.{RollingAudit}
use Rattle.rolling_audit.specs.declared.fault.Flaw.{Flaw}
use Rattle.rolling_audit.specs.declared.life.Life.{Life}
use Rattle.rolling_audit.specs.declared.lives.Lives.{Lives}
use Rattle.rolling_audit.specs.declared.trail.Trail.{Trail}
use Rattle.rolling_audit.specs.Faults.{given_by}
use Rattle.rolling_audit.specs.Histories.{AllOwn, kept_of}
use Rattle.rolling_audit.specs.Known.{AreKnown}
use Rattle.rolling_audit.specs.Slots.{used_in}
use Rattle.rolling_audit.specs.Lives.{IsLife, IsOver, flaw_of, is_done, is_fine, no_life}

-- what is kept by session, and by name
abbrev pub Trails : Type 0
Trails = SessionId → Option Trail

abbrev pub LivesBy : Type 0
LivesBy = Name → Option Life

-- a session stands where its records lead
pub record IsTrail (boot : ℕ) (s : Trail) (h : Kept) : Type 0 where
  pub id : s.session.id ≡ h.session
  pub mode : s.session.mode ≡ h.mode
  pub stands : Stands boot s.session (reverse h.records)
  pub given : s.given ≡ given_by h.session (reverse h.records)
  pub taken : s.taken ≡ place_at (length h.records)

-- what is kept of a dispatch that may have no life
abbrev pub life_or : Option Life → Life
life_or None = no_life
life_or (Some l) = l

-- a name was given, or can't be given any more: its client has given as many, or has no trail any more
abbrev pub spent_by : Option Trail → (used : ℕ → Bool) → Name → Type 0
spent_by (Some s) used n = n.seq ≤ s.given
spent_by None used n = used n.client ≡ true

-- what is known of a name, by the life that is kept of it
pub data IsKept (n : Name) (clients all : List Record) (spent : Type 0) : Option Life → Type 0 where
  -- its life tells all of its records
  known : (o : Option Life) → IsLife n clients all (life_or o) → ((life_or o).trace.taken ≡ true → spent)
      → IsKept n clients all spent o
  -- it was done with, and its life was dropped
  forgotten : (l : Life) → IsLife n clients all l → IsOver l → spent → IsKept n clients all spent None
  -- it was named again after that, by some of all records: no client can give it, so its life stays
  again : (l : Life) (cs rs : List Record) → IsLife n cs rs l → ((p : RecordKind → Bool) → times p n rs ≤ times p n all)
      → l.trace.taken ≡ false → spent → IsKept n clients all spent (Some l)

-- all that is kept belongs to these histories, no dispatch that is done with is kept, and these numbers of clients
-- are used
pub record AreTaken (boot : ℕ) (hs : List Kept) (trails : Trails) (lives : LivesBy) (used : ℕ → Bool) : Type 0 where
  pub own : AllOwn hs
  pub leads : (id : SessionId) (s : Trail) → trails id ≡ Some s → (h : Kept) × (kept_of id hs ≡ Some h) × IsTrail boot s h
  pub numbered : (k : ℕ) (s : Trail) → trails (Client k) ≡ Some s → used k ≡ true
  pub undone : (n : Name) (l : Life) → lives n ≡ Some l → is_done l ≡ false
  pub dispatches : (n : Name)
      → IsKept n (client_records hs) (all_records hs) (spent_by (trails (Client n.client)) used n) (lives n)
  pub knows : AreKnown hs lives used

-- what is kept of a dispatch, by its client and its number
abbrev pub pair_eq : ℕ × ℕ → ℕ × ℕ → Bool
pair_eq a b = nat_eq a.0 b.0 && nat_eq a.1 b.1

abbrev pub life_of : Lives → LivesBy
life_of lives n = if n.boot == lives.boot then get pair_eq lives.lives (n.client, n.seq) else None

-- one more dispatch finds room
abbrev pub HasRoom : Lives → Type 0
HasRoom lives = 0 < spare lives.lives

-- each dispatch that is kept passes a test
abbrev pub EachPasses : (Life → Bool) → LivesBy → Type 0
EachPasses test lives = (n : Name) (l : Life) → lives n ≡ Some l → test l ≡ true

-- one doesn't
abbrev pub SomeFails : (Life → Bool) → LivesBy → Type 0
SomeFails test lives = (n : Name) × ((l : Life) × (lives n ≡ Some l) × (test l ≡ false))

-- the records of each bear each other out
abbrev pub AreFine : LivesBy → Type 0
AreFine lives = EachPasses is_fine lives

-- the one that stands at a place passes a test
abbrev pub PassesAt : (Life → Bool) → List ((ℕ × ℕ) × Life) → ℕ → Type 0
PassesAt test entries k = (e : (ℕ × ℕ) × Life) → slice_get entries k ≡ Some e → test e.1 ≡ true

abbrev pub FailsAt : (Life → Bool) → List ((ℕ × ℕ) × Life) → ℕ → Type 0
FailsAt test entries k = (e : (ℕ × ℕ) × Life) × (slice_get entries k ≡ Some e) × (test e.1 ≡ false)

-- a dispatch that is kept has this flaw
abbrev pub HasFlaw : Lives → Name → Flaw → Type 0
HasFlaw lives n f = (l : Life) × (life_of lives n ≡ Some l) × (flaw_of l ≡ Some f)

-- the one that stands at a place has it
abbrev pub HasFlawAt : Lives → ℕ → Name → Flaw → Type 0
HasFlawAt lives k n f =
    (l : Life) × (slice_get lives.lives.entries k ≡ Some ((n.client, n.seq), l)) × (n.boot ≡ lives.boot)
    × (flaw_of l ≡ Some f)

abbrev pub trail_of : RollingAudit → Trails
trail_of a (Client k) = get nat_eq a.clients k
trail_of a (Server k) = get nat_eq a.servers k

abbrev pub IsTaken : List Kept → RollingAudit → Type 0
IsTaken hs a = AreTaken a.lives.boot hs (trail_of a) (life_of a.lives) (used_in a.lasts.items)
