-- The lists of a world, and the theorem over all worlds.
use Rattle.std.specs.Prelude.{ℕ, List, [], ◌∷◌, ◌≡◌, true, is_some}
use Rattle.std.specs.List.{AllByRecursion}
use Rattle.mux_history.specs.Bounds.{Bounds}
use Rattle.mux_history.specs.declared.session.SessionId.{SessionId}
use Rattle.mux_history.specs.declared.session.SessionId.TheVariants.{Client, Server}
use Rattle.mux_history.specs.declared.name.Name.{Name}
use Rattle.mux_history.specs.Readings.{reading, is_noted, stands, is_drained_kind}
use Rattle.mux_history.specs.Holders.{name_on}
use Rattle.mux_history.specs.Lapse.{lease_of}
use Rattle.mux_model.specs.Down.{noted_place}
use Rattle.mux_model.specs.Up.{is_drained, lease_end}
use Rattle.mux_model.specs.Tags.{holder, name_held}
use Rattle.mux_model.specs.Replay.{is_joined}
use Rattle.mux_model.specs.Steps.{Step, entries, records}
use Rattle.mux_model.specs.World.{Connection, start}
use Rattle.mux_model.specs.Events.{Event, run, AllChooseFree}
use Rattle.mux_model.specs.Legal.{Line, IsLegal, reading_at}
use Rattle.mux_model.specs.Lawful.{EndsAgreeAt}

abbrev pub line_of : Connection → Line
line_of c = record { boot = c.boot; session = c.session; mode = c.mode; steps = c.steps }

abbrev pub lines : List Connection → List Line
lines [] = []
lines (c ∷ cs) = line_of c ∷ lines cs

-- whatever events come, in whatever order, the lists of all boots are a legal run
abbrev pub EveryRunIsLegal : Type 0
EveryRunIsLegal =
    (limits : Bounds) (boot : ℕ) (events : List (ℕ × Event)) → AllChooseFree (start limits boot) events
    → IsLegal limits.retries (lines (run (start limits boot) events).connections)

-- who holds each tag by the records of a list is who holds it by its messages
abbrev pub IsLinked : SessionId → List Step → Type 0
IsLinked id past = (t : ℕ) → name_on t (records past) ≡ name_held (holder id t (entries past))

abbrev pub EachConnection : (Connection → Type 0) → List Connection → Type 0
EachConnection P cs = AllByRecursion P cs

-- in every run the records tell the open tags
abbrev pub RecordsTellTags : Type 0
RecordsTellTags =
    (limits : Bounds) (boot : ℕ) (events : List (ℕ × Event)) → AllChooseFree (start limits boot) events
    → EachConnection (λ c. IsLinked c.session c.steps) (run (start limits boot) events).connections

-- what else a list tells, its records tell: of a client's list which places were noted, of a server's whether it is
-- drained and when its last lease lapses
abbrev pub ReadsAlike : SessionId → List Step → Type 0
ReadsAlike (Client k) past = (n : Name) → is_some (noted_place n past) ≡ is_noted n (records past)
ReadsAlike (Server k) past =
    (is_drained (entries past) ≡ stands is_drained_kind (records past))
    × (lease_end (entries past) ≡ lease_of (records past))

-- in every run the records tell the readings handed in, the places noted, the drains and the leases
abbrev pub RecordsTellWords : Type 0
RecordsTellWords =
    (limits : Bounds) (boot : ℕ) (events : List (ℕ × Event)) → AllChooseFree (start limits boot) events
    → EachConnection (λ c. (reading (records c.steps) ≡ reading_at c.steps) × ReadsAlike c.session c.steps)
    (run (start limits boot) events).connections

-- in every run the records of each epoch of a session are a history in which each may follow those before it, and each
-- epoch begins where those before it lead to
abbrev pub RecordsFollow : Type 0
RecordsFollow =
    (limits : Bounds) (boot : ℕ) (events : List (ℕ × Event)) → AllChooseFree (start limits boot) events
    → EachConnection (λ c. is_joined limits c.boot c.mode c.session (records c.steps) ≡ true)
    (run (start limits boot) events).connections

-- in every run, on each connection with a lawful far end, both ends pair each dispatch with the same reply
abbrev pub BothEndsAgree : Type 0
BothEndsAgree =
    (limits : Bounds) (boot : ℕ) (events : List (ℕ × Event)) → AllChooseFree (start limits boot) events
    → EachConnection (λ c. EndsAgreeAt c.session (entries c.steps)) (run (start limits boot) events).connections
