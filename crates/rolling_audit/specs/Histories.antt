-- The records of sessions, and more records behind those of one of them.
use Rattle.std.specs.Prelude.{List, [], ◌∷◌, ◌++◌, ◌==◌, ◌≡◌, Bool, true, false, Option, Some, None, if◌then◌else◌, is_some, not, ◌&&◌}
use Rattle.mux_history.specs.declared.record.Record.{Record}
use Rattle.mux_history.specs.declared.kind.RecordKind.{RecordKind}
use Rattle.mux_history.specs.declared.kind.RecordKind.TheVariants.{Took, TookDrained, Offered, Passed, Failed}
use Rattle.mux_history.specs.declared.session.InitMode.{InitMode}
use Rattle.mux_history.specs.declared.session.SessionId.{SessionId}
use Rattle.mux_history.specs.declared.session.SessionId.TheVariants.{Client, Server}
use Rattle.mux_agree.specs.Walk.{Kept}
use Rattle.rolling_audit.specs.Recalls.{gives_recall}
use Rattle.rolling_audit.specs.Stands.{IsRight}

abbrev pub same_session : SessionId → SessionId → Bool
same_session (Client j) (Client k) = j == k
same_session (Server j) (Server k) = j == k
same_session _ _ = false

-- a session before its first record
abbrev pub unwritten : SessionId → InitMode → Kept
unwritten id mode = record { session = id; mode = mode; records = [] }

-- the history of a session: of several with its number, the first
abbrev pub kept_of : SessionId → List Kept → Option Kept
kept_of id [] = None
kept_of id (h ∷ hs) = if same_session h.session id then Some h else kept_of id hs

-- more records behind those of a history
abbrev pub longer : Kept → List Record → Kept
longer h rs = record { session = h.session; mode = h.mode; records = h.records ++ rs }

-- more records behind those of a session
abbrev pub behind : SessionId → List Record → List Kept → List Kept
behind id rs [] = []
behind id rs (h ∷ hs) = if same_session h.session id then longer h rs ∷ hs else h ∷ behind id rs hs

-- a record must name a dispatch, and does not
abbrev pub needs_name : RecordKind → Bool
needs_name Offered = true
needs_name Passed = true
needs_name Failed = true
needs_name Took = true
needs_name TookDrained = true
needs_name kind = gives_recall kind

abbrev pub lacks_name : Record → Bool
lacks_name r = needs_name r.kind && not (is_some r.name)

-- a record has none of the causes that its session's own records tell; `past` are those, the newest first
pub record IsOwn (mode : InitMode) (id : SessionId) (past : List Record) (r : Record) : Type 0 where
  pub right : IsRight mode id past r
  pub named : lacks_name r ≡ false

-- nor has one of the records that follow
abbrev pub AreOwn : InitMode → SessionId → (past later : List Record) → Type 0
AreOwn mode id past [] = Unit
AreOwn mode id past (r ∷ later) = IsOwn mode id past r × AreOwn mode id (r ∷ past) later

-- nor one of any history
abbrev pub AllOwn : List Kept → Type 0
AllOwn [] = Unit
AllOwn (h ∷ hs) = AreOwn h.mode h.session [] h.records × AllOwn hs
