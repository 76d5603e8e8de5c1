-- The walk over histories, and the first fault that it meets.
use Rattle.std.specs.Prelude.{◌≡◌, All, ℕ, List, [], ◌∷◌, ◌++◌, Option, Some, None, Bool, true, false, length, map, filter, min, ◌-◌, ◌^◌}
use Rattle.std.specs.List.{flat_map}
use Rattle.mux_history.specs.declared.record.Record.{Record}
use Rattle.mux_history.specs.declared.session.SessionId.{SessionId}
use Rattle.mux_history.specs.declared.session.SessionId.TheVariants.{Client, Server}
use Rattle.mux_history.specs.declared.session.InitMode.{InitMode}
use Rattle.mux_history.specs.declared.session.InitMode.TheVariants.{Plain}
use Rattle.mux_history.specs.Log.{Log}
use Rattle.mux_agree.specs.declared.agreement.disagreement.DisagreementCause.{DisagreementCause}
use Rattle.mux_agree.specs.declared.agreement.disagreement.Disagreement.{Disagreement}
use Rattle.mux_agree.specs.declared.agreement.histories.DownHistory.{DownHistory}
use Rattle.mux_agree.specs.declared.agreement.histories.UpHistory.{UpHistory}
use Rattle.mux_agree.specs.Agree.{is_sent_twice, is_answered_twice, is_never_sent, is_nacked_though_sent, is_lost_but_settled, is_tag_fault, is_after_drain, is_on_lapsed, is_bad_epoch, cause_of}

-- a session with its records over all epochs, the oldest first; the mode of a client's session doesn't matter
pub record Kept : Type 0 where
  pub session : SessionId
  pub mode : InitMode
  pub records : List Record

-- the epochs of a session joined
abbrev pub joined : List Log → List Record
joined epochs = flat_map (λ h. h.records) epochs

abbrev pub kept_down : DownHistory → Kept
kept_down h = record { session = Client h.client; mode = Plain; records = joined h.epochs.items }

abbrev pub kept_up : UpHistory → Kept
kept_up h = record { session = Server h.server; mode = h.mode; records = joined h.epochs.items }

-- the histories in the order of the walk: clients first
abbrev pub histories : List DownHistory → List UpHistory → List Kept
histories downs ups = map kept_down downs ++ map kept_up ups

abbrev pub all_records : List Kept → List Record
all_records hs = flat_map (λ h. h.records) hs

abbrev pub is_client : SessionId → Bool
is_client (Client k) = true
is_client (Server k) = false

abbrev pub client_records : List Kept → List Record
client_records hs = all_records (filter (λ h. is_client h.session) hs)

-- a record where the walk meets it
pub record Stop : Type 0 where
  pub session : SessionId
  pub mode : InitMode
  -- the records of the histories before its own
  pub earlier : List Record
  -- the records before it in its own session, the newest first
  pub past : List Record
  pub entry : Record

abbrev pub stops_in : (earlier : List Record) → SessionId → InitMode → (past later : List Record) → List Stop
stops_in earlier id mode past [] = []
stops_in earlier id mode past (r ∷ later) =
    record { session = id; mode = mode; earlier = earlier; past = past; entry = r }
    ∷ stops_in earlier id mode (r ∷ past) later

abbrev pub stops : (earlier : List Record) → List Kept → List Stop
stops earlier [] = []
stops earlier (h ∷ hs) = stops_in earlier h.session h.mode [] h.records ++ stops (earlier ++ h.records) hs

-- the cause of a record among all records and those of clients
abbrev pub cause_at : (clients all : List Record) → Stop → Option DisagreementCause
cause_at clients all s = cause_of s.mode s.session clients all (s.past ++ s.earlier) s.past s.entry

-- a place as the program counts it; no list that fits into memory reaches the cap
abbrev pub place_at : ℕ → ℕ
place_at n = min n (2 ^ 64 - 1)

-- what is told of a cause at a place
abbrev pub told : SessionId → ℕ → Option DisagreementCause → Option Disagreement
told id place None = None
told id place (Some cause) = Some (record { session = id; place = place_at place; cause = cause })

abbrev pub or_else : {A : Type 0} → Option A → Option A → Option A
or_else (Some x) later = Some x
or_else None later = later

-- the first fault among stops
abbrev pub first_among : (clients all : List Record) → List Stop → Option Disagreement
first_among clients all [] = None
first_among clients all (s ∷ ss) =
    or_else (told s.session (length s.past) (cause_at clients all s)) (first_among clients all ss)

-- the first fault of the walk over histories
abbrev pub first_fault : List Kept → Option Disagreement
first_fault hs = first_among (client_records hs) (all_records hs) (stops [] hs)

-- a record has none of the causes
pub record IsFaultless (clients all : List Record) (s : Stop) : Type 0 where
  pub sent_once : is_sent_twice all s.entry ≡ false
  pub answered_once : is_answered_twice (s.past ++ s.earlier) s.entry ≡ false
  pub founded : is_never_sent clients all s.entry ≡ false
  pub not_nacked : is_nacked_though_sent all s.entry ≡ false
  pub lost : is_lost_but_settled all s.entry ≡ false
  pub on_its_tag : is_tag_fault s.past s.entry ≡ false
  pub before_drain : is_after_drain s.past s.entry ≡ false
  pub on_its_lease : is_on_lapsed s.past s.entry ≡ false
  pub leads_on : is_bad_epoch s.mode s.session s.past s.entry ≡ false

abbrev pub AreFaultless : (clients all : List Record) → List Stop → Type 0
AreFaultless clients all ss = All (IsFaultless clients all) ss

-- a record at a stop has this cause, and none before it has one
pub record IsFirst (clients all : List Record) (ss : List Stop) (d : Disagreement) : Type 0 where
  pub before : List Stop
  pub stop : Stop
  pub after : List Stop
  pub walk : ss ≡ before ++ stop ∷ after
  pub faultless : AreFaultless clients all before
  pub session : d.session ≡ stop.session
  pub place : d.place ≡ place_at (length stop.past)
  pub cause : cause_at clients all stop ≡ Some d.cause

-- the same of whole histories
abbrev pub BearOut : List Kept → Type 0
BearOut hs = AreFaultless (client_records hs) (all_records hs) (stops [] hs)

abbrev pub IsFirstFault : List Kept → Disagreement → Type 0
IsFirstFault hs d = IsFirst (client_records hs) (all_records hs) (stops [] hs) d
