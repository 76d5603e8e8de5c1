-- One session by itself, whatever the others do: the lists that its calls lead to, with any number of frames taken out
-- between.
use Rattle.std.specs.Prelude.{ℕ, List, [], ◌∷◌, ◌≡◌, true, Option, Some, None}
use Rattle.mux_frame.specs.Spelling.{MuxFrame}
use Rattle.mux_message.specs.Kinds.{kind_of, is_dispatch, is_final}
use Rattle.mux_history.specs.Bounds.{Bounds}
use Rattle.mux_history.specs.declared.session.InitMode.{InitMode}
use Rattle.mux_history.specs.declared.session.SessionId.{SessionId}
use Rattle.mux_history.specs.declared.session.SessionId.TheVariants.{Client, Server}
use Rattle.mux_model.specs.Entries.{Exchange}
use Rattle.mux_model.specs.Steps.{Held, Call, SettleCall, OfferCall, Step, records, Recorded}
use Rattle.mux_model.specs.Down.{DownSession, down}
use Rattle.mux_model.specs.Up.{UpSession, up, MayChoose}
use Rattle.mux_model.specs.World.{Connection, first_step, start}
use Rattle.mux_model.specs.Events.{Event, run, AllChooseFree}
use Rattle.mux_model.specs.Runs.{EachConnection}
use Rattle.mux_model.specs.Replay.{is_joined}
use Rattle.mux_legal.specs.KeptRuns.{IsRecorded}

-- a dispatch that comes back with its reply
abbrev pub IsDispatchBack : Option MuxFrame → Type 0
IsDispatchBack None = Unit {0}
IsDispatchBack (Some f) = is_dispatch (kind_of f.kind) ≡ true

-- what a value in hand says of its message: a reply is a final one, a ticket's is a Tdispatch
abbrev pub HandsIn : Call → Type 0
HandsIn (SettleCall n reply again) = (is_final (kind_of reply.kind) ≡ true) × IsDispatchBack again
HandsIn (OfferCall n f left now) = is_dispatch (kind_of f.kind) ≡ true
HandsIn _ = Unit {0}

-- the lists of a client's session: each step is what `down` answers of a call, whatever number of frames was taken out
-- before it
pub data IsReachedDown (c : DownSession) : List Step → Type 0 where
  begins : IsReachedDown c []
  goes_on : {past : List Step} (out : ℕ) (call : Call) (e : Exchange) (gives : List Held) → HandsIn call
      → down c past out call ≡ Recorded e gives → IsReachedDown c past
      → IsReachedDown c (record { call = call; entry = e } ∷ past)

-- the lists of a server's session: what `up` answers, where an offer chooses a free tag
pub data IsReachedUp (s : UpSession) : List Step → Type 0 where
  begins : IsReachedUp s (first_step s.mode)
  goes_on : {past : List Step} (out t : ℕ) (call : Call) (e : Exchange) (gives : List Held) → MayChoose s past t call
      → HandsIn call
      → up s past out t call ≡ Recorded e gives → IsReachedUp s past
      → IsReachedUp s (record { call = call; entry = e } ∷ past)

-- the list of a connection is such a list
abbrev pub IsReachedAlone : Bounds → Connection → SessionId → Type 0
IsReachedAlone limits c (Client k) = IsReachedDown (record { limits = limits; boot = c.boot; number = k }) c.steps
IsReachedAlone limits c (Server k) = IsReachedUp (record { limits = limits; number = k; mode = c.mode }) c.steps

-- every list of every run is such a list
abbrev pub RunsReachSessions : Type 0
RunsReachSessions =
    (limits : Bounds) (boot : ℕ) (events : List (ℕ × Event)) → AllChooseFree (start limits boot) events
    → EachConnection (λ c. IsReachedAlone limits c c.session) (run (start limits boot) events).connections

-- such a list is recorded: its histories follow and join, and each record tells of its step
abbrev pub SessionsAreRecorded : Type 0
SessionsAreRecorded =
    ((c : DownSession) (mode : InitMode) (steps : List Step) → IsReachedDown c steps
    → (is_joined c.limits c.boot mode (Client c.number) (records steps) ≡ true)
    × IsRecorded (record { boot = c.boot; session = Client c.number; mode = mode; steps = steps }))
    × ((s : UpSession) (boot : ℕ) (steps : List Step) → IsReachedUp s steps
    → (is_joined s.limits boot s.mode (Server s.number) (records steps) ≡ true)
    × IsRecorded (record { boot = boot; session = Server s.number; mode = s.mode; steps = steps }))
