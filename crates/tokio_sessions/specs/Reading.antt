-- What a `ReadSession` does with the bytes that it reads.
use Rattle.std.specs.Prelude.{◌≡◌, ◌≢◌, ℕ, ◌≤◌, List, [], ◌++◌, length, ⊤, ◌⊎◌, Bool, true, false, Option, Some, None}
use Rattle.std.specs.declared.io.Error.{Error}
use Rattle.futures.specs.declared.task.Poll.{Poll}
use Rattle.futures.specs.declared.task.Poll.TheVariants.{Ready, Pending}
use Rattle.tokio.specs.Io.Moved.{Passes}
use Rattle.mux_frame.specs.declared.fault.FrameFault.{FrameFault}
use Rattle.mux_frame.specs.declared.fault.FrameFault.TheVariants.{TooLarge, TooShort, Truncated, Read, Memory}
use Rattle.mux_frame.specs.Views.{FrameView}
use Rattle.mux_frame.specs.Spelling.{spelling}
use Rattle.mux_frame.specs.Decoding.{IsPartial, Shows}
use Rattle.tokio_sessions.specs.declared.read_session.ReadEnd.{ReadEnd}
use Rattle.tokio_sessions.specs.declared.read_session.ReadEnd.TheVariants.{End, Fault, Stopped}
use Rattle.tokio_sessions.specs.declared.read_session.ReadSession.{ReadSession}
use Rattle.tokio_sessions.specs.declared.step.Step.{Step}
use Rattle.tokio_sessions.specs.declared.step.Step.TheVariants.{Again, Wait, Over}
use Rattle.tokio_sessions.specs.Passing.{Hands, spelled}

-- the bytes of a frame that was put off
abbrev pub kept_bytes : Option FrameView → List ℕ
kept_bytes None = []
kept_bytes (Some f) = spelling f.frame

-- what was read and no sink took: the frame that was put off, then the bytes not yet decoded
abbrev pub held : {R S : Type 0} → ReadSession R S → List ℕ
held s = kept_bytes s.kept ++ s.buffer

-- From one state to another some bytes were read and at most n frames taken, and then these were lost: what was held
-- and the bytes read spell the frames taken, the frames lost, and what is held.
pub record Moves {R S : Type 0} (reads : Passes R) (takes : Hands S) (n : ℕ) (lost : List FrameView)
    (old new : ReadSession R S) : Type 0 where
  pub bytes : List ℕ
  pub frames : List FrameView
  pub read : reads old.reader bytes new.reader
  pub taken : takes old.sink.inner frames new.sink.inner
  pub composes : held old ++ bytes ≡ spelled frames ++ (spelled lost ++ held new)
  pub few : length frames ≤ n

-- before, this frame was held, and then what is held now
abbrev pub HeldFirst : {R S : Type 0} → FrameView → (before now : ReadSession R S) → Type 0
HeldFirst f before now =
    (now.reader ≡ before.reader) × (now.sink ≡ before.sink) × (held before ≡ spelling f.frame ++ now.buffer)

-- the bytes that are left show the fault, or a read failed, or memory was refused
abbrev pub HasFault : {R S : Type 0} (is_at_end : R → Type 0) (fails : R → Error → Type 0) (fault : FrameFault)
    (new : ReadSession R S) → Type 0
HasFault is_at_end fails TooLarge new = Shows new.max_frame new.buffer TooLarge
HasFault is_at_end fails TooShort new = Shows new.max_frame new.buffer TooShort
HasFault is_at_end fails Truncated new = is_at_end new.reader × IsPartial new.max_frame new.buffer × (new.buffer ≢ [])
HasFault is_at_end fails Read new = (e : Error) × fails new.reader e
HasFault is_at_end fails Memory new = ⊤

-- The turns of a poll answer with cause. A frame is lost only when the sink answers `Stop`, and then one is. An open
-- session has a sink that never answered so, and one that did is offered nothing more: so this is the poll's last step.
abbrev pub HasCause : {R S : Type 0} (is_at_end : R → Type 0) (fails : R → Error → Type 0) (refuses : S → Type 0)
    (answer : Poll ReadEnd) (lost : List FrameView) (new : ReadSession R S) → Type 0
HasCause is_at_end fails refuses (Ready End) lost new =
    (lost ≡ []) × is_at_end new.reader × (held new ≡ []) × (new.sink.refused ≡ false)
HasCause is_at_end fails refuses (Ready (Fault fault)) lost new =
    (lost ≡ []) × (new.kept ≡ None) × HasFault is_at_end fails fault new × (new.sink.refused ≡ false)
HasCause is_at_end fails refuses (Ready Stopped) lost new =
    (length lost ≡ 1) × refuses new.sink.inner × (new.sink.refused ≡ true)
HasCause is_at_end fails refuses Pending lost new = lost ≡ []

abbrev pub answer_of : Step ReadEnd → Poll ReadEnd
answer_of Again = Pending
answer_of Wait = Pending
answer_of (Over end) = Ready end

-- some turns, where `stopped` is not asked
abbrev pub Turns : {R S : Type 0} (reads : Passes R) (takes : Hands S) (is_at_end : R → Type 0)
    (fails : R → Error → Type 0) (refuses : S → Type 0) (n : ℕ) (old : ReadSession R S) (answer : Poll ReadEnd)
    (new : ReadSession R S) → Type 0
Turns reads takes is_at_end fails refuses n old answer new =
    (lost : List FrameView) × Moves reads takes n lost old new × HasCause is_at_end fails refuses answer lost new

-- A poll that began with no end: when `stopped` answers true it reads nothing and answers Stopped, and else it takes
-- its turns.
abbrev pub PollsTo : {R S : Type 0} (reads : Passes R) (takes : Hands S) (is_at_end : R → Type 0)
    (fails : R → Error → Type 0) (refuses : S → Type 0) (says : S → Bool → Type 0) (n : ℕ) (old : ReadSession R S)
    (answer : Poll ReadEnd) (new : ReadSession R S) → Type 0
PollsTo reads takes is_at_end fails refuses says n old answer new =
    (says old.sink.inner true × (answer ≡ Ready Stopped) × (new.reader ≡ old.reader) × Moves reads takes 0 [] old new)
    ⊎ (says old.sink.inner false × Turns reads takes is_at_end fails refuses n old answer new)

-- what a session waits for: the sink that put a frame off, else the reader
abbrev pub waits_for : {R S : Type 0} (of_reader : R → ℕ → Type 0) (of_sink : S → ℕ → Type 0)
    → ReadSession R S → ℕ → Type 0
waits_for of_reader of_sink s source =
    ((s.kept ≡ None) × of_reader s.reader source) ⊎ ((s.kept ≢ None) × of_sink s.sink.inner source)

-- From the first state on, over any number of polls: what it held and the bytes read since then are the spellings of
-- the frames taken since then, then of the frame that a Stop lost, then what is held now.
abbrev pub Since : {R S : Type 0} (reads : Passes R) (takes : Hands S) (first now : ReadSession R S) → Type 0
Since reads takes first now =
    (n : ℕ) × (lost : List FrameView) × Moves reads takes n lost first now
    × ((lost ≡ []) ⊎ ((now.end ≡ Some Stopped) × (length lost ≡ 1)))
