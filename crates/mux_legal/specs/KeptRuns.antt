-- Lists whose records are histories that sessions keep, and what `agree` says of them.
use Rattle.std.specs.Prelude.{ℕ, List, ◌≡◌, ◌≤◌, ◌+◌, ◌⊎◌, true, false, Option, Some, None, map, reverse}
use Rattle.mux_frame.specs.Spelling.{MuxFrame}
use Rattle.mux_history.specs.Bounds.{Bounds}
use Rattle.mux_history.specs.declared.name.Name.{Name}
use Rattle.mux_history.specs.declared.session.SessionId.{SessionId}
use Rattle.mux_history.specs.declared.session.SessionId.TheVariants.{Client, Server}
use Rattle.mux_agree.specs.declared.agreement.histories.DownHistory.{DownHistory}
use Rattle.mux_agree.specs.declared.agreement.histories.UpHistory.{UpHistory}
use Rattle.mux_agree.specs.Walk.{Kept, histories, BearOut}
use Rattle.mux_model.specs.Entries.{Exchange}
use Rattle.mux_model.specs.Tags.{Holder, is_open, name_in}
use Rattle.mux_model.specs.Steps.{entries, records, is_nack}
use Rattle.mux_model.specs.Up.{is_drained}
use Rattle.mux_model.specs.Replay.{are_histories, epochs}
use Rattle.mux_model.specs.Runs.{lines}
use Rattle.mux_model.specs.World.{start}
use Rattle.mux_model.specs.Events.{Event, run, AllChooseFree}
use Rattle.mux_model.specs.Legal.{Line, Each, EachStep, EachLine, SomeLine, OnDispatch, OnFinal, IsTakenIn, IsSettledIn, IsRouterMade, IsOwnAnswer, EachWasNacked, holder_then, all_replies, times_carried, times_nacked, IsNamedInTurn, bearers, IsUnlapsed, IsCut}
use Rattle.mux_legal.specs.Tellings.{IsTold}

-- a list of steps that a session's histories tell: in each epoch each record may follow those before it, and tells of
-- its step. That an epoch begins where those before it lead to isn't asked: it is what `agree` looks at
pub record IsRecorded (l : Line) : Type 0 where
  pub limits : Bounds
  pub follows : are_histories limits l.boot l.mode l.session (epochs (records l.steps)) ≡ true
  pub told : EachStep (IsTold l.session) l.steps

-- the histories of a list joined, the oldest record first
abbrev pub history_of : Line → Kept
history_of l = record { session = l.session; mode = l.mode; records = reverse (records l.steps) }

-- a dispatch sent to a server is carried: a client's list took a dispatch under its name
abbrev pub IsCarriedName : List Line → Option Name → Type 0
IsCarriedName ls name = (n : Name) × (name ≡ Some n) × (m : MuxFrame) × SomeLine (IsTakenIn n m) ls

pub record IsFairOffer (ls : List Line) (id : SessionId) (e : Exchange) (old : List Exchange) (f : MuxFrame) : Type 0 where
  pub carried : IsCarriedName ls (name_in e.rec)
  pub free : is_open id f.tag old ≡ false
  pub undrained : is_drained old ≡ false

-- passed on: a server's list pairs a final reply with the name; a nack only where every sending was nacked
abbrev pub IsRepliedTo : List Line → Name → Type 0
IsRepliedTo ls n = (r : MuxFrame) × SomeLine (IsSettledIn n r) ls × (is_nack r ≡ true → EachWasNacked ls n)

-- a final reply sent to a client: paired with a name, and passed on or made by the router; on a tag that isn't open,
-- the router's own answer to what the entry took
abbrev pub IsFairAnswer : List Line → Exchange → MuxFrame → Option Holder → Type 0
IsFairAnswer ls e f None = IsOwnAnswer e.taken f
IsFairAnswer ls e f (Some h) = (n : Name) × (h.name ≡ Some n) × (IsRepliedTo ls n ⊎ IsRouterMade ls n e f)

abbrev pub IsFairEntry : List Line → SessionId → Exchange → List Exchange → Type 0
IsFairEntry ls (Server k) e old = OnDispatch e.sent (IsFairOffer ls (Server k) e old)
IsFairEntry ls (Client k) e old = OnFinal e.sent (λ f. IsFairAnswer ls e f (holder_then (Client k) e old f.tag))

-- a legal run, but for bodies: the dispatch that was sent need not say what was taken, nor the reply that was passed
-- on what came. How often a dispatch may be sent again is a limit of the sessions, which histories don't tell
pub record IsLegalButBodies (ls : List Line) : Type 0 where
  pub one_connection : (b : ℕ) (id : SessionId) → bearers b id ls ≤ 1
  pub fair : EachLine (λ l. Each (IsFairEntry ls l.session) (entries l.steps)) ls
  pub unlapsed : EachLine (λ l. EachStep (IsUnlapsed l.session) l.steps) ls
  pub named : EachLine (λ l. Each (IsNamedInTurn l.boot l.session) (entries l.steps)) ls
  pub sent_again : (n : Name) → times_carried n ls ≤ 1 + times_nacked n ls
  pub answered_once : (n : Name) → all_replies n ls ≤ 1
  pub cut : EachLine (λ l. Each IsCut (entries l.steps)) ls

-- what `agree` answers of the histories is true of the lists: where they bear each other out, the lists are a legal
-- run but for bodies
abbrev pub KeptRunsAreLegal : Type 0
KeptRunsAreLegal =
    (downs : List DownHistory) (ups : List UpHistory) (ls : List Line) → map history_of ls ≡ histories downs ups
    → ((b : ℕ) (id : SessionId) → bearers b id ls ≤ 1) → EachLine IsRecorded ls
    → BearOut (histories downs ups) → IsLegalButBodies ls

-- the lists of every run are told so by their records
abbrev pub RunsAreRecorded : Type 0
RunsAreRecorded =
    (limits : Bounds) (boot : ℕ) (events : List (ℕ × Event)) → AllChooseFree (start limits boot) events
    → EachLine IsRecorded (lines (run (start limits boot) events).connections)
