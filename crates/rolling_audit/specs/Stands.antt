-- A session of the walk stands where its records lead.
use Rattle.std.specs.Prelude.{ℕ, List, [], ◌∷◌, ◌≡◌, ◌<◌, ◌||◌, ⊤, Bool, true, false, is_some, nat_eq}
use Rattle.std.specs.declared.hash.FoldHasher.{FoldHasher}
use Rattle.std.specs.declared.hash.BuildHasherDefault.{BuildHasherDefault}
use Rattle.indexmap.specs.IndexMap.{IndexMap, get, spare}
use Rattle.mux_history.specs.declared.name.Name.{Name}
use Rattle.mux_history.specs.declared.record.Record.{Record}
use Rattle.mux_history.specs.declared.kind.Standing.{Standing}
use Rattle.mux_history.specs.declared.session.InitMode.{InitMode}
use Rattle.mux_history.specs.declared.session.SessionId.{SessionId}
use Rattle.mux_history.specs.declared.session.SessionId.TheVariants.{Client, Server}
use Rattle.mux_history.specs.Holders.{name_on}
use Rattle.mux_history.specs.Readings.{answer_due, is_epoch, note_due}
use Rattle.mux_history.specs.Standings.{leads_to, stands_so}
use Rattle.mux_agree.specs.Agree.{is_after_drain, is_bad_epoch, is_on_lapsed, is_tag_fault}
use Rattle.mux_agree.specs.Outlines.{outline_of}
use Rattle.rolling_audit.specs.declared.dues.Dues.{Dues}
use Rattle.rolling_audit.specs.declared.session.Session.{Session}
use Rattle.rolling_audit.specs.Dues.{AreDue, DuesGoOn, HasPlace, IsOfClient}
use Rattle.rolling_audit.specs.Sent.{SentGoOn}

abbrev pub SentTags : Type 0
SentTags = IndexMap ℕ ℕ (BuildHasherDefault FoldHasher)

abbrev pub is_out : SentTags → ℕ → Bool
is_out sent t = is_some (get nat_eq sent t)

-- a dispatch is out on each tag on which one is by the records
abbrev pub AreSent : SentTags → List Record → Type 0
AreSent sent past = (about : Record) → is_out sent about.tag ≡ (outline_of about past).sent

-- what waits, by the kind of session
abbrev pub Waits : (boot : ℕ) → SessionId → Dues → SentTags → List Record → Type 0
Waits boot (Client k) dues sent past = AreDue boot k dues past
Waits boot (Server k) dues sent past = AreSent sent past

abbrev pub WaitsOn : SessionId → Dues → SentTags → Record → Dues → SentTags → Type 0
WaitsOn (Client k) dues sent r more out = DuesGoOn dues r more
WaitsOn (Server k) dues sent r more out = SentGoOn (is_out sent) r (is_out out)

-- one record more that waits finds room
abbrev pub CanWait : SessionId → Dues → SentTags → Type 0
CanWait (Client k) dues sent = HasPlace dues
CanWait (Server k) dues sent = 0 < spare sent

pub record HasSpare (s : Session) : Type 0 where
  pub tags : 0 < spare s.tags
  pub waits : CanWait s.id s.dues s.sent

-- the session stands so by its records, the newest first
pub record Stands (boot : ℕ) (s : Session) (past : List Record) : Type 0 where
  pub outline : s.outline ≡ outline_of s.about past
  pub tags : (t : ℕ) → get nat_eq s.tags t ≡ name_on t past
  pub waits : Waits boot s.id s.dues s.sent past

-- before any record
pub record Begins (name : SessionId) (how : InitMode) (s : Session) : Type 0 where
  pub id : s.id ≡ name
  pub mode : s.mode ≡ how
  pub stands : (boot : ℕ) → Stands boot s []

-- a record has none of the causes that its session's own records tell
pub record IsRight (mode : InitMode) (id : SessionId) (past : List Record) (r : Record) : Type 0 where
  pub on_its_tag : is_tag_fault past r ≡ false
  pub before_drain : is_after_drain past r ≡ false
  pub on_its_lease : is_on_lapsed past r ≡ false
  pub leads_on : is_bad_epoch mode id past r ≡ false

-- nothing is due of a client's dispatches
abbrev pub NothingWaits : SessionId → (past : List Record) → Type 0
NothingWaits (Client k) past = (n : Name) → (note_due n past || answer_due n past) ≡ false
NothingWaits (Server k) past = ⊤

abbrev pub StandsSo : Session → Standing → Type 0
StandsSo s standing =
    (boot : ℕ) (past : List Record) → Stands boot s past
    → (stands_so s.mode s.id past standing ≡ true) × NothingWaits s.id past

abbrev pub LeadsTo : Session → Record → Type 0
LeadsTo s r =
    (boot : ℕ) (past : List Record) → Stands boot s past
    → (leads_to s.mode s.id past r r.kind ≡ true) × (is_epoch r.kind ≡ true → NothingWaits s.id past)

-- it stands as before, though it may have more room
pub record StaysSo (old new : Session) : Type 0 where
  pub id : new.id ≡ old.id
  pub mode : new.mode ≡ old.mode
  pub stands : (boot : ℕ) (past : List Record) → Stands boot old past → Stands boot new past

-- a client's record names no dispatch but one of its own, of this boot
abbrev pub IsOfOne : (boot : ℕ) → SessionId → Record → Type 0
IsOfOne boot (Client k) r = IsOfClient boot k r
IsOfOne boot (Server k) r = ⊤

-- one record further
pub record StepsOn (old : Session) (r : Record) (new : Session) : Type 0 where
  pub id : new.id ≡ old.id
  pub mode : new.mode ≡ old.mode
  pub right : (boot : ℕ) (past : List Record) → Stands boot old past → IsRight old.mode old.id past r
  pub stands : (boot : ℕ) (past : List Record) → IsOfOne boot old.id r → Stands boot old past → Stands boot new (r ∷ past)
  pub rested :
      (boot : ℕ) (past : List Record) → Stands boot old past → is_epoch r.kind ≡ true → NothingWaits old.id past
