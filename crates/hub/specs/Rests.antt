-- The histories of a run that its audit had not taken, and how it takes them at the end.
use Rattle.std.specs.Prelude.{ℕ, List, [], ◌∷◌, ◌++◌, ◌≡◌, Option, Some, None, drop, option_map, unwrap_or}
use Rattle.mux_history.specs.Log.{Log}
use Rattle.mux_history.specs.declared.record.Record.{Record}
use Rattle.mux_history.specs.declared.session.SessionId.{SessionId}
use Rattle.mux_history.specs.declared.session.SessionId.TheVariants.{Client, Server}
use Rattle.mux_agree.specs.declared.agreement.histories.DownHistory.{DownHistory}
use Rattle.mux_agree.specs.declared.agreement.histories.UpHistory.{UpHistory}
use Rattle.mux_agree.specs.Walk.{Kept}
use Rattle.rolling_audit.specs.Histories.{behind}
use Rattle.rolling_audit.specs.Covering.{LeftBy, TakesEpoch}
use Rattle.rolling_audit.specs.Opening.{begun_with, is_new}
use Rattle.rolling_audit.specs.Turns.{next_in}
use Rattle.rolling_audit.specs.declared.run.RunAudit.{RunAudit}
use Rattle.rolling_audit.specs.declared.run_fault.RunFault.{RunFault}

-- the history of one epoch
pub record Rest : Type 0 where
  pub session : SessionId
  pub records : List Record

-- the epoch of a session that is next: the first that the audit has not taken to its end
abbrev pub first_in : RunAudit → SessionId → ℕ
first_in a id = unwrap_or (option_map (λ p. p.epoch) (next_in a.turns id)) 0

-- the same; with no audit none was taken
abbrev pub first_left : Option RunAudit → SessionId → ℕ
first_left None id = 0
first_left (Some a) id = first_in a id

-- the epochs of a session
abbrev pub rests_of : SessionId → List Log → List Rest
rests_of id [] = []
rests_of id (h ∷ hs) = record { session = id; records = h.records } ∷ rests_of id hs

-- those of all sessions of one side
abbrev pub rests_from : {H : Type 0} → (named : H → SessionId) → (epochs : H → List Log) → List H → List Rest
rests_from named epochs [] = []
rests_from named epochs (h ∷ hs) = rests_of (named h) (epochs h) ++ rests_from named epochs hs

abbrev pub down_rests : List DownHistory → List Rest
down_rests downs = rests_from (λ d. Client d.client) (λ d. d.epochs.items) downs

abbrev pub up_rests : List UpHistory → List Rest
up_rests ups = rests_from (λ u. Server u.server) (λ u. u.epochs.items) ups

-- those of all clients, then of all servers
abbrev pub rests : List DownHistory → List UpHistory → List Rest
rests downs ups = down_rests downs ++ up_rests ups

-- the audit took the whole history of each, in this order, each as that of the epoch that was next
abbrev pub TakesAll : RunAudit → List Rest → RunAudit → Type 0
TakesAll old [] new = old ≡ new
TakesAll old (r ∷ rs) new =
    (mid : RunAudit) × TakesEpoch old r.session (first_in old r.session) r.records mid × TakesAll mid rs new

abbrev pub TakesRests : RunAudit → List DownHistory → List UpHistory → RunAudit → Type 0
TakesRests old downs ups new = TakesAll old (rests downs ups) new

-- the histories that the audit was told of once it has taken these, behind those that it was told of before: of each
-- epoch come the records that were not taken yet, and a session is opened in front of its first
abbrev pub told : (old : RunAudit) (all : List Rest) (new : RunAudit) → TakesAll old all new → List Kept → List Kept
told old [] new takes hs = hs
told old (r ∷ rs) new takes hs =
    told takes.0 rs new takes.2
    (behind r.session (drop takes.1.within r.records)
    (begun_with old.modes.items (is_new old.audit r.session) r.session hs))

-- some were taken, and others are left
pub record Goes (old : RunAudit) (all left : List Rest) (new : RunAudit) : Type 0 where
  pub done : List Rest
  pub whole : all ≡ done ++ left
  pub taken : TakesAll old done new

-- one isn't taken, though all before it are
pub record StopsAmong (e : RunFault) (old : RunAudit) (all : List Rest) : Type 0 where
  pub before : RunAudit
  pub behind : RunAudit
  pub at : Rest
  pub later : List Rest
  pub goes : Goes old all (at ∷ later) before
  pub left : LeftBy e before at.session (first_in before at.session) at.records behind
