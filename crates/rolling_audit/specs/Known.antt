-- What is known of a dispatch by what is kept of it.
use Rattle.std.specs.Prelude.{ℕ, List, [], ◌∷◌, ◌≡◌, ◌≤◌, ◌<◌, Bool, true, false, Option, Some, None, reverse}
use Rattle.mux_history.specs.declared.name.Name.{Name}
use Rattle.mux_history.specs.declared.record.Record.{Record}
use Rattle.mux_history.specs.declared.kind.RecordKind.{RecordKind}
use Rattle.mux_history.specs.declared.kind.RecordKind.TheVariants.{Took, Noted, Passed, Retried, Nacked, Unrouted, Failed, Late}
use Rattle.mux_history.specs.declared.session.SessionId.TheVariants.{Client}
use Rattle.mux_history.specs.Readings.{answer_due, note_due}
use Rattle.mux_agree.specs.Agree.{times}
use Rattle.mux_agree.specs.Walk.{Kept, all_records, client_records, is_client}
use Rattle.rolling_audit.specs.declared.dues.Due.{Due}
use Rattle.rolling_audit.specs.declared.life.Life.{Life}
use Rattle.rolling_audit.specs.Dues.{none_due}
use Rattle.rolling_audit.specs.Histories.{kept_of, longer}
use Rattle.rolling_audit.specs.Lives.{IsLife, is_done, no_life}

-- what was taken of each history is a beginning of it
abbrev pub AreBeginnings : (taken hs : List Kept) → Type 0
AreBeginnings [] [] = Unit {0}
AreBeginnings (t ∷ ts) (h ∷ hs) = ((later : List Record) × (longer t later ≡ h)) × AreBeginnings ts hs
AreBeginnings _ _ = ⊥

-- what is due of a dispatch by the records that were taken of its client
abbrev pub IsDueBy : Name → Due → Kept → Type 0
IsDueBy n due t =
    t.session ≡ Client n.client
    → (note_due n (reverse t.records) ≡ due.note) × (answer_due n (reverse t.records) ≡ due.answer)

abbrev pub EachIsDueBy : Name → Due → List Kept → Type 0
EachIsDueBy n due [] = Unit {0}
EachIsDueBy n due (t ∷ ts) = IsDueBy n due t × EachIsDueBy n due ts

-- a record of this kind changes what is due
abbrev pub changes_due : RecordKind → Bool
changes_due Took = true
changes_due (Noted recalled) = true
changes_due Passed = true
changes_due Retried = true
changes_due Nacked = true
changes_due Unrouted = true
changes_due Failed = true
changes_due (Late whole) = true
changes_due _ = false

-- no server's record changes what is due of the dispatch
abbrev pub ClientsChangeDue : Name → List Kept → Type 0
ClientsChangeDue n hs = times changes_due n (client_records hs) ≡ times changes_due n (all_records hs)

-- what is due of it by the history of its client
abbrev pub due_told : Name → Option Kept → Due
due_told n None = none_due
due_told n (Some h) = record { note = note_due n (reverse h.records); answer = answer_due n (reverse h.records) }

-- a life tells all records of the dispatch, and what is due of it
pub record TellsAll (n : Name) (hs : List Kept) (l : Life) : Type 0 where
  pub life : IsLife n (client_records hs) (all_records hs) l
  pub due : ClientsChangeDue n hs → l.due ≡ due_told n (kept_of (Client n.client) hs)

-- once its life told all that was taken of it, and it was done with; a record named it behind that
pub record CameLate (n : Name) (hs : List Kept) : Type 0 where
  pub before : List Kept
  pub begin : AreBeginnings before hs
  pub life : Life
  pub told : IsLife n (client_records before) (all_records before) life
  pub due : ClientsChangeDue n before → EachIsDueBy n life.due before
  pub done : is_done life ≡ true
  pub more : times (λ k. true) n (all_records before) < times (λ k. true) n (all_records hs)

-- what is known of it, by the life that is kept
pub data Knows (n : Name) (hs : List Kept) : Option Life → Type 0 where
  -- its records tell nothing of it yet
  unmet : TellsAll n hs no_life → Knows n hs None
  -- its life tells all of its records, of which there are some
  whole : (l : Life) → TellsAll n hs l → 1 ≤ times (λ k. true) n (all_records hs) → Knows n hs (Some l)
  -- its life told all of them, and it is done with
  over : (l : Life) → TellsAll n hs l → is_done l ≡ true → Knows n hs None
  -- it was done with, and named again
  late : (o : Option Life) → CameLate n hs → Knows n hs o

-- no client has two histories
abbrev pub AreSingle : List Kept → Type 0
AreSingle [] = Unit {0}
AreSingle (h ∷ hs) = (is_client h.session ≡ true → kept_of h.session hs ≡ None) × AreSingle hs

-- each client's number is used, and of each dispatch so much is known
pub record AreKnown (hs : List Kept) (lives : Name → Option Life) (used : ℕ → Bool) : Type 0 where
  pub single : AreSingle hs
  pub seen : (k : ℕ) (h : Kept) → kept_of (Client k) hs ≡ Some h → used k ≡ true
  pub each : (n : Name) → Knows n hs (lives n)
