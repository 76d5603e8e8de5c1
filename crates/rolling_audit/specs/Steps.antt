-- One record further, and more records further.
use Rattle.std.specs.List.Sorted.{IsPermutation}
use Rattle.std.specs.Prelude.{ℕ, List, length, reverse, take, ◌+◌, ◌==◌, ◌≡◌, ◌≤◌, ◌<◌, ◌⊎◌, ◌&&◌, ◌||◌, Bool, true, false, Option, Some, None, IsSome, is_some, not, if◌then◌else◌}
use Rattle.mux_history.specs.declared.name.Name.{Name}
use Rattle.mux_history.specs.declared.record.Record.{Record}
use Rattle.mux_history.specs.declared.session.InitMode.{InitMode}
use Rattle.mux_history.specs.declared.session.SessionId.{SessionId}
use Rattle.mux_history.specs.declared.session.SessionId.TheVariants.{Client}
use Rattle.mux_history.specs.Readings.{gives_name, is_named, same_name}
use Rattle.mux_history.specs.declared.kind.RecordKind.{RecordKind}
use Rattle.mux_history.specs.Holders.{of_named}
use Rattle.mux_agree.specs.Agree.{answers, has, times}
use Rattle.mux_agree.specs.Walk.{BearOut, Kept, all_records, client_records, place_at}
use Rattle.rolling_audit.specs.Stands.{Begins, Stands, StepsOn}
use Rattle.rolling_audit.specs.declared.rolling.RollingAudit.{RollingAudit}
use Rattle.rolling_audit.specs.declared.fault.Flaw.TheVariants.{Untaken}
use Rattle.rolling_audit.specs.declared.fault.OpenFault.{OpenFault}
use Rattle.rolling_audit.specs.declared.fault.OpenFault.TheVariants.{Memory as OutOfMemory, IsOpen, NumberUsed}
use Rattle.rolling_audit.specs.declared.fault.RollingFault.{RollingFault}
use Rattle.rolling_audit.specs.declared.fault.RollingFault.TheVariants.{Memory, NotOpen, Record as FaultyRecord, Dispatch}
use Rattle.rolling_audit.specs.declared.fault.RecordFault.{RecordFault}
use Rattle.rolling_audit.specs.declared.fault.RecordFault.TheVariants.{AnsweredTwice, Uncounted}
use Rattle.rolling_audit.specs.declared.life.Life.{Life}
use Rattle.rolling_audit.specs.declared.trail.Trail.{Trail}
use Rattle.rolling_audit.specs.Histories.{behind, kept_of, lacks_name, same_session}
use Rattle.rolling_audit.specs.Slots.{used_in}
use Rattle.rolling_audit.specs.Counted.{one}
use Rattle.rolling_audit.specs.Faults.{HasCause, IsFaulty, gives_own, is_of_other_client}
use Rattle.rolling_audit.specs.Dues.{due_after}
use Rattle.rolling_audit.specs.Known.{CameLate}
use Rattle.rolling_audit.specs.Lives.{IsFull, LivesOn, is_done, kept_life}
use Rattle.rolling_audit.specs.Taken.{AreTaken, HasFlaw, IsTaken, IsTrail, LivesBy, Trails, life_or, trail_of}

-- the trail of a session stands behind a record, which gives no name or its next one
pub record TrailGoesOn (id : SessionId) (s : Trail) (r : Record) (t : Trail) : Type 0 where
  pub steps : StepsOn s.session r t.session
  pub named : lacks_name r ≡ false
  pub own : is_of_other_client id r ≡ false
  pub next : (gives_own id r && not (of_named (λ n. n.seq == s.given + 1) r.name)) ≡ false
  pub given : t.given ≡ s.given + one (gives_own id r)
  pub taken : t.taken ≡ place_at (s.taken + 1)

-- a record has this cause behind the records where the trail stands
abbrev pub TrailRefuses : RecordFault → SessionId → Trail → Record → Type 0
TrailRefuses cause id s r =
    (boot : ℕ) (h : Kept) (all : List Record) → h.session ≡ id → IsTrail boot s h
    → HasCause cause boot h.mode id (reverse h.records) all r

-- what is kept of a dispatch behind a record of it
pub data LivesOnAs (l : Life) (of_client : Bool) (r : Record) : Option Life → Type 0 where
  kept : (m : Life) → LivesOn l of_client r.kind m
      → m.trace.taken ≡ ((of_client && gives_name r.kind) || l.trace.taken) → m.due ≡ due_after r.kind l.due
      → is_done m ≡ false → LivesOnAs l of_client r (Some m)
  dropped : (m : Life) → LivesOn l of_client r.kind m
      → m.trace.taken ≡ ((of_client && gives_name r.kind) || l.trace.taken) → m.due ≡ due_after r.kind l.due
      → is_done m ≡ true → LivesOnAs l of_client r None

-- this life is kept of the name, if it isn't done with, and all else stays
pub record Keeps (lives : LivesBy) (n : Name) (l : Life) (more : LivesBy) : Type 0 where
  pub own : more n ≡ kept_life l
  pub others : (m : Name) → same_name n m ≡ false → more m ≡ lives m

-- a record of this kind isn't counted: it is a second answer, or there is no room
abbrev pub LifeRefuses : RecordFault → Life → RecordKind → Type 0
LifeRefuses AnsweredTwice l kind = (answers kind && l.answered) ≡ true
LifeRefuses Uncounted l kind = IsFull l
LifeRefuses _ l kind = ⊥

abbrev pub LivesRefuse : RecordFault → LivesBy → Record → Type 0
LivesRefuse cause lives r = (n : Name) × (r.name ≡ Some n) × LifeRefuses cause (life_or (lives n)) r.kind

-- what is kept of each dispatch behind a record
pub record AllGoOn (lives : LivesBy) (of_client : Bool) (r : Record) (more : LivesBy) : Type 0 where
  pub own : (n : Name) → r.name ≡ Some n → LivesOnAs (life_or (lives n)) of_client r (more n)
  pub others : (n : Name) → is_named n r.name ≡ false → more n ≡ lives n

-- the trail of one session among those of others
abbrev pub with_trail : Trails → SessionId → Trail → Trails
with_trail others id s q = if same_session id q then Some s else others q

-- trail and lives go on to belong to the histories, with these records behind those of the session
abbrev pub Takes : (boot : ℕ) → SessionId → Trail → LivesBy → List Record → Trail → LivesBy → Type 0
Takes boot id s lives rs t more =
    (hs : List Kept) (others : Trails) (used : ℕ → Bool) → AreTaken boot hs (with_trail others id s) lives used
    → AreTaken boot (behind id rs hs) (with_trail others id t) more used

-- a record isn't taken behind these histories, for this cause
abbrev pub IsRefusedAt : RecordFault → (boot : ℕ) → SessionId → Trail → LivesBy → Record → Type 0
IsRefusedAt cause boot id s lives r =
    (hs : List Kept) (others : Trails) (used : ℕ → Bool) → AreTaken boot hs (with_trail others id s) lives used
    → (h : Kept) → kept_of id hs ≡ Some h → HasCause cause boot h.mode id (reverse h.records) (all_records hs) r

-- a trail stands as before, though it may have more room
pub record TrailStays (s t : Trail) : Type 0 where
  pub id : t.session.id ≡ s.session.id
  pub mode : t.session.mode ≡ s.session.mode
  pub given : t.given ≡ s.given
  pub taken : t.taken ≡ s.taken
  pub stands : (boot : ℕ) (past : List Record) → Stands boot s.session past → Stands boot t.session past

-- where a walk ends early: out of memory, it was taken as far as is told; at a record at fault, it has the cause
abbrev pub LeftAt : RollingFault → (boot : ℕ) → SessionId → Trail → LivesBy → List Record → Trail → LivesBy → Type 0
LeftAt (Memory taken) boot id s lives rs t more = (taken < length rs) × Takes boot id s lives (take taken rs) t more
LeftAt (FaultyRecord session place cause) boot id s lives rs t more =
    (session ≡ id) × ((hs : List Kept) (others : Trails) (used : ℕ → Bool) → AreTaken boot hs (with_trail others id s) lives used
    → IsFaulty boot hs id rs place cause)
LeftAt _ boot id s lives rs t more = ⊥

-- a session is opened; the number of a client wasn't used
pub record Opens (trails : Trails) (used : ℕ → Bool) (id : SessionId) (mode : InitMode) (more : Trails) (now : ℕ → Bool)
    : Type 0 where
  pub trail : Trail
  pub own : more id ≡ Some trail
  pub begins : Begins id mode trail.session
  pub unwritten : trail.taken ≡ 0
  pub ungiven : trail.given ≡ 0
  pub others : (q : SessionId) → same_session id q ≡ false → more q ≡ trails q
  pub rises : (k : ℕ) → used k ≡ true → now k ≡ true
  pub numbered : (k : ℕ) → id ≡ Client k → (used k ≡ false) × (now k ≡ true)
  pub closed : trails id ≡ None

abbrev pub OpensIn : RollingAudit → SessionId → InitMode → RollingAudit → Type 0
OpensIn old id mode new =
    Opens (trail_of old) (used_in old.lasts.items) id mode (trail_of new) (used_in new.lasts.items)

-- why a session isn't opened
abbrev pub IsRefused : OpenFault → RollingAudit → SessionId → Type 0
IsRefused OutOfMemory a id = Unit
IsRefused IsOpen a id = IsSome (trail_of a id)
IsRefused NumberUsed a id = (k : ℕ) × (id ≡ Client k) × (used_in a.lasts.items k ≡ true)

-- a session ends
pub record Ends (trails : Trails) (id : SessionId) (more : Trails) : Type 0 where
  pub own : more id ≡ None
  pub others : (q : SessionId) → same_session id q ≡ false → more q ≡ trails q

-- nothing changed but room
pub record Rests (old new : RollingAudit) : Type 0 where
  pub trails : (q : SessionId) → trail_of new q ≡ trail_of old q
  pub lasts : new.lasts ≡ old.lasts

-- the same sessions are open
abbrev pub SameOpen : RollingAudit → RollingAudit → Type 0
SameOpen old new = (q : SessionId) → is_some (trail_of new q) ≡ is_some (trail_of old q)

-- it goes on to belong to the histories
abbrev pub Stays : RollingAudit → RollingAudit → Type 0
Stays old new = (hs : List Kept) → IsTaken hs old → IsTaken hs new

-- with these records behind those of the session
abbrev pub TakesAll : RollingAudit → SessionId → List Record → RollingAudit → Type 0
TakesAll old id rs new = (hs : List Kept) → IsTaken hs old → IsTaken (behind id rs hs) new

-- where the taking of records ends early: out of memory, it belongs to the histories with as many as is told; at a
-- record at fault, its session and its place are told, and it has the cause
abbrev pub LeftBy : RollingFault → RollingAudit → SessionId → List Record → RollingAudit → Type 0
LeftBy (Memory taken) old id rs new = (taken < length rs) × TakesAll old id (take taken rs) new
LeftBy (NotOpen session) old id rs new = (session ≡ id) × (trail_of old id ≡ None) × Stays old new
LeftBy (FaultyRecord session place cause) old id rs new =
    (session ≡ id) × ((hs : List Kept) → IsTaken hs old → IsFaulty old.lives.boot hs id rs place cause)
LeftBy (Dispatch name flaw) old id rs new = ⊥

-- why the whole is at fault: a dispatch that is kept has this flaw
abbrev pub IsAtFault : RollingFault → RollingAudit → Type 0
IsAtFault (Dispatch name flaw) a = HasFlaw a.lives name flaw
IsAtFault _ a = ⊥

-- where histories bear each other out, in whatever order, nothing is at fault but that a dispatch is untaken
abbrev pub CloseRightly : Type 0
CloseRightly =
    (hs ks : List Kept) (a : RollingAudit) (e : RollingFault)
    → IsTaken hs a → IsPermutation hs ks → BearOut ks → IsAtFault e a → (n : Name) × (e ≡ Dispatch n Untaken)

-- of a dispatch that is untaken there are records, and none tells that a client took it; or it was done with by some of
-- them, and named again
abbrev pub FindsUntaken : Type 0
FindsUntaken =
    (hs ks : List Kept) (a : RollingAudit) (n : Name) → IsTaken hs a → IsPermutation hs ks → HasFlaw a.lives n Untaken
    → ((1 ≤ times (λ k. true) n (all_records ks)) × (has gives_name n (client_records ks) ≡ false)) ⊎ CameLate n ks
