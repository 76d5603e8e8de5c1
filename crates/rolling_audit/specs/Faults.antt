-- The causes for which a record isn't taken, by the records of its session before it, the newest first, and by all that
-- were taken.
use Rattle.std.specs.Prelude.{ℕ, List, ◌∷◌, ◌≡◌, ◌≤◌, ◌⊎◌, ◌+◌, ◌++◌, ◌-◌, ◌^◌, ◌==◌, ◌&&◌, ◌||◌, Bool, true, false, Some, not, count_by, length, reverse, slice_get, take}
use Rattle.mux_history.specs.declared.name.Name.{Name}
use Rattle.mux_history.specs.declared.record.Record.{Record}
use Rattle.mux_history.specs.declared.kind.RecordKind.{RecordKind}
use Rattle.mux_history.specs.declared.kind.RecordKind.TheVariants.{Took, TookDrained, Noted, Recalled}
use Rattle.mux_history.specs.declared.kind.Standing.{Standing}
use Rattle.mux_history.specs.declared.session.InitMode.{InitMode}
use Rattle.mux_history.specs.declared.session.SessionId.{SessionId}
use Rattle.mux_history.specs.declared.session.SessionId.TheVariants.{Client, Server}
use Rattle.mux_history.specs.Holders.{of_named}
use Rattle.mux_history.specs.Readings.{answer_due, gives_name, is_epoch, note_due}
use Rattle.mux_history.specs.Standings.{stands_so}
use Rattle.mux_agree.specs.Agree.{is_after_drain, is_answered_twice, is_bad_epoch, is_on_lapsed, is_tag_fault, times}
use Rattle.mux_agree.specs.Walk.{BearOut, Kept, all_records, is_client, place_at}
use Rattle.rolling_audit.specs.declared.fault.RecordFault.{RecordFault}
use Rattle.rolling_audit.specs.declared.fault.RecordFault.TheVariants.{OtherBoot, Nameless, OtherClient, NotNext, AfterDrain, Lapsed, BadEpoch, TagOpen, AnsweredTwice, Uncounted}
use Rattle.rolling_audit.specs.declared.session.Session.{Session}
use Rattle.rolling_audit.specs.Histories.{behind, kept_of, lacks_name, longer}
use Rattle.rolling_audit.specs.Stands.{Stands}

-- it names a dispatch of another boot
abbrev pub is_of_other_boot : (boot : ℕ) → Record → Bool
is_of_other_boot boot r = of_named (λ n. not (n.boot == boot)) r.name

-- it is a client's, and names a dispatch of another client
abbrev pub is_of_other_client : SessionId → Record → Bool
is_of_other_client (Client k) r = of_named (λ n. not (n.client == k)) r.name
is_of_other_client (Server k) r = false

-- it gives a name of its client
abbrev pub gives_own : SessionId → Record → Bool
gives_own id r = is_client id && gives_name r.kind

-- how many names a client gave
abbrev pub given_by : SessionId → (past : List Record) → ℕ
given_by id past = count_by (gives_own id) past

-- it gives a name that isn't its client's next one
abbrev pub is_not_next : SessionId → (past : List Record) → Record → Bool
is_not_next id past r = gives_own id r && not (of_named (λ n. n.seq == given_by id past + 1) r.name)

-- a client's dispatch waits for its note or its answer
abbrev pub Waits : SessionId → (past : List Record) → Type 0
Waits (Client k) past = (n : Name) × ((note_due n past || answer_due n past) ≡ true)
Waits (Server k) past = ⊥

-- an Epoch or a Rolled that isn't what the records before it lead to, or an Epoch before which a client's dispatch waits
abbrev pub IsBadEpoch : InitMode → SessionId → (past : List Record) → Record → Type 0
IsBadEpoch mode id past r = (is_bad_epoch mode id past r ≡ true) ⊎ (is_epoch r.kind ≡ true) × Waits id past

-- of its dispatch 255 records were taken, or of its session as many as a count of pings holds
abbrev pub AreMany : (past all : List Record) → Record → Type 0
AreMany past all r =
    ((n : Name) × (r.name ≡ Some n) × (255 ≤ times (λ k. true) n all)) ⊎ (2 ^ 64 - 1 ≤ length past)

-- it has this cause: `past` are the records of its session before it, `all` those that were taken before it
abbrev pub HasCause : RecordFault → (boot : ℕ) → InitMode → SessionId → (past all : List Record) → Record → Type 0
HasCause OtherBoot boot mode id past all r = is_of_other_boot boot r ≡ true
HasCause Nameless boot mode id past all r = lacks_name r ≡ true
HasCause OtherClient boot mode id past all r = is_of_other_client id r ≡ true
HasCause NotNext boot mode id past all r = is_not_next id past r ≡ true
HasCause AfterDrain boot mode id past all r = is_after_drain past r ≡ true
HasCause Lapsed boot mode id past all r = is_on_lapsed past r ≡ true
HasCause BadEpoch boot mode id past all r = IsBadEpoch mode id past r
HasCause TagOpen boot mode id past all r = is_tag_fault past r ≡ true
HasCause AnsweredTwice boot mode id past all r = is_answered_twice all r ≡ true
HasCause Uncounted boot mode id past all r = AreMany past all r

-- one of these records of a session has the cause, behind those before it, and stands at this place of its history
pub record IsFaulty (boot : ℕ) (hs : List Kept) (id : SessionId) (rs : List Record) (place : ℕ) (cause : RecordFault)
    : Type 0 where
  pub own : Kept
  pub kept : kept_of id hs ≡ Some own
  pub index : ℕ
  pub met : Record
  pub stands : slice_get rs index ≡ Some met
  pub placed : place ≡ place_at (length own.records + index)
  pub faulty :
      HasCause cause boot own.mode id (reverse (own.records ++ take index rs)) (all_records (behind id (take index rs) hs)) met

-- what was taken of a session begins one of these histories
pub record IsBegun (hs : List Kept) (own : Kept) : Type 0 where
  pub before : List Kept
  pub after : List Kept
  pub later : List Record
  pub whole : hs ≡ before ++ longer own later ∷ after

-- what was taken is part of these histories: a beginning of this session's, and no record is in it more often
pub record AreOf (hs taken : List Kept) (id : SessionId) : Type 0 where
  pub begun : (own : Kept) → kept_of id taken ≡ Some own → IsBegun hs own
  pub few : (test : Record → Bool) → count_by test (all_records taken) ≤ count_by test (all_records hs)

-- a record of this kind may name no dispatch where histories bear each other out, though it must name one
abbrev pub may_lack_name : RecordKind → Bool
may_lack_name Took = true
may_lack_name TookDrained = true
may_lack_name (Noted recalled) = recalled
may_lack_name Recalled = true
may_lack_name _ = false

-- what a cause leaves open of a record, if the histories bear each other out: nothing, if its session's own records
-- show it, or if it is a second answer; one without its name is of one of four kinds; an Epoch that is what they lead
-- to may come while a dispatch waits that its client's records don't begin
abbrev pub Leaves : RecordFault → SessionId → (past : List Record) → Record → Type 0
Leaves AfterDrain id past r = ⊥
Leaves Lapsed id past r = ⊥
Leaves TagOpen id past r = ⊥
Leaves AnsweredTwice id past r = ⊥
Leaves Nameless id past r = may_lack_name r.kind ≡ true
Leaves BadEpoch id past r = (is_epoch r.kind ≡ true) × Waits id past
Leaves _ id past r = Unit

-- whatever was taken and is handed in of histories that bear each other out
abbrev pub AccuseRightly : Type 0
AccuseRightly =
    (hs taken : List Kept) (boot : ℕ) (id : SessionId) (rs : List Record) (place : ℕ) (cause : RecordFault)
    → BearOut hs → AreOf hs (behind id rs taken) id → (f : IsFaulty boot taken id rs place cause)
    → Leaves cause id (reverse (f.own.records ++ take f.index rs)) f.met

-- the same of what is kept of a session
abbrev pub Refuses : RecordFault → Session → Record → Type 0
Refuses cause s r =
    (boot : ℕ) (past all : List Record) → Stands boot s past → HasCause cause boot s.mode s.id past all r

abbrev pub IsAstray : Session → Record → Type 0
IsAstray s r = (boot : ℕ) (past : List Record) → Stands boot s past → IsBadEpoch s.mode s.id past r

abbrev pub StandsElse : Session → Standing → Type 0
StandsElse s standing =
    (boot : ℕ) (past : List Record) → Stands boot s past
    → (stands_so s.mode s.id past standing ≡ false) ⊎ Waits s.id past
