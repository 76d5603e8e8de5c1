-- What a connection of lines does with the bytes that it reads.
use Rattle.std.specs.Prelude.{◌≡◌, ◌≢◌, ℕ, ◌≤◌, List, [], ◌∷◌, ◌++◌, length, flat_map, map, All, Bool, IsTrue, ⊤, ◌⊎◌, Option, Some, if◌then◌else◌}
use Rattle.std.specs.declared.io.Error.{Error}
use Rattle.tokio.specs.Io.Moved.{Passes}
use Rattle.tokio_util.specs.declared.codec.lines_codec.LinesCodec.{LinesCodec}
use Rattle.tokio_util.specs.Codec.Next.{Resumes}
use Rattle.tokio_util.specs.Codec.Lines.{gives_lines, at_line_start, without_carriage_return}
use Rattle.line_session.specs.declared.session.LineEnd.{LineEnd}
use Rattle.line_session.specs.declared.session.LineEnd.TheVariants.{Quit, Ended, Refused, Failed}
use Rattle.line_session.specs.declared.session.LineSession.{LineSession}
use Rattle.line_session.specs.declared.step.Step.{Step}
use Rattle.line_session.specs.declared.step.Step.TheVariants.{Again, Wait, Over}
use Rattle.line_session.specs.declared.step.Stage.{Stage}
use Rattle.line_session.specs.declared.step.Stage.TheVariants.{Open, Leaving, Refusing, Draining}
use Rattle.line_session.specs.Answering.{Serves}
use Rattle.line_session.specs.Lines.{lacks, IsLine, with_line_feed, Event, line_of, done_by, told_by, IsPlain, IsLeave, IsRefused}

-- P, where a turn waits
abbrev pub OnWait : Step → Type 0 → Type 0
OnWait Again P = ⊤
OnWait Wait P = P
OnWait (Over end) P = ⊤

-- P of the end, where a turn is the last one
abbrev pub IfOver : Step → (LineEnd → Type 0) → Type 0
IfOver Again P = ⊤
IfOver Wait P = ⊤
IfOver (Over end) P = P end

-- the end that is noted after a turn
abbrev pub end_after : Step → Option LineEnd → Option LineEnd
end_after Again noted = noted
end_after Wait noted = noted
end_after (Over end) noted = Some end

-- the end where a write failed: the last line was answered all the same
abbrev pub end_lost : Stage → LineEnd
end_lost Open = Failed
end_lost Leaving = Quit
end_lost Refusing = Failed
end_lost (Draining left) = Failed

-- a session ends once the last answer is written
abbrev pub stage_after : Bool → Stage → Stage
stage_after is_last stage = if is_last then Leaving else stage

-- what a stage waits for
abbrev pub stage_waits_for : Stage → (of_reader of_writer : Type 0) → Type 0
stage_waits_for Open of_reader of_writer = of_reader
stage_waits_for Leaving of_reader of_writer = ⊥
stage_waits_for Refusing of_reader of_writer = of_writer
stage_waits_for (Draining left) of_reader of_writer = of_reader

-- What a session waits for: the writer while bytes are unsent and where its half is to be shut down, else the reader.
abbrev pub waits_for : {R W A : Type 0} (of_reader : R → ℕ → Type 0) (of_writer : W → ℕ → Type 0)
    → LineSession R W A → ℕ → Type 0
waits_for of_reader of_writer s source =
    ((s.unsent ≢ []) × of_writer s.writer source)
    ⊎ ((s.unsent ≡ []) × stage_waits_for s.stage (of_reader s.reader source) (of_writer s.writer source))

-- Codec and buffer stand for these bytes, of which no line was taken: whatever follows, what they give is what a
-- new codec gives over these bytes.
abbrev pub Holds : List ℕ → LinesCodec → List ℕ → Type 0
Holds rest codec buffer = Resumes gives_lines (at_line_start 1024) rest codec buffer

-- only the last event is one after which no line is taken
abbrev pub Closes : (Event → Type 0) → List Event → Type 0
Closes P events =
    (before : List Event) × (last : Event) × (events ≡ before ++ (last ∷ [])) × All IsPlain before × P last

-- the events that lead to a stage, where these bytes stand behind the lines
abbrev pub LeadTo : Stage → List Event → (rest : List ℕ) → LinesCodec → (buffer : List ℕ) → Type 0
LeadTo Open events rest codec buffer = All IsPlain events × Holds rest codec buffer
LeadTo Leaving events rest codec buffer = Closes IsLeave events
LeadTo Refusing events rest codec buffer = Closes (IsRefused rest) events
LeadTo (Draining left) events rest codec buffer = Closes (IsRefused rest) events

-- The bytes are whole lines, each with its line feed, and then a rest; the events are those of the lines, in order.
pub record Cut (bytes : List ℕ) (events : List Event) (stage : Stage) (codec : LinesCodec) (buffer : List ℕ)
    : Type 0 where
  pub lines : List (List ℕ)
  pub rest : List ℕ
  pub whole : All IsLine lines
  pub cut : bytes ≡ flat_map with_line_feed lines ++ rest
  pub texts : flat_map line_of events ≡ map without_carriage_return lines
  pub lead : LeadTo stage events rest codec buffer

-- these bytes were read and these events came about, since nothing was read
abbrev pub Stands : {R W A : Type 0} → List ℕ → List Event → LineSession R W A → Type 0
Stands bytes events s = Cut bytes events s.stage s.codec s.buffer.items

-- From one state to another these bytes were read, and with what was read before they were cut into lines. Each line
-- was answered once, in order. What was told is what was written and what is unsent now.
pub record Goes {R W A : Type 0} (reads : Passes R) (writes : Passes W) (answers : Serves A) (n : ℕ)
    (old new : LineSession R W A) : Type 0 where
  pub bytes : List ℕ
  pub events : List Event
  pub out : List ℕ
  pub read : reads old.reader bytes new.reader
  pub carried : answers old.answers (flat_map done_by events) new.answers
  pub wrote : writes old.writer out new.writer
  pub owed : old.unsent ++ flat_map told_by events ≡ out ++ new.unsent
  pub stands : (past : List ℕ) (before : List Event) → Stands past before old
      → Stands (past ++ bytes) (before ++ events) new
  pub few : length events ≤ n

-- the same over any number of polls
abbrev pub Since : {R W A : Type 0} (reads : Passes R) (writes : Passes W) (answers : Serves A)
    (first now : LineSession R W A) → Type 0
Since reads writes answers first now = (n : ℕ) × Goes reads writes answers n first now

-- no line feed is among the bytes that codec and buffer stand for
abbrev pub HoldsNoLine : LinesCodec → List ℕ → Type 0
HoldsNoLine codec buffer = (rest : List ℕ) → Holds rest codec buffer → IsTrue (lacks 10 rest)

abbrev pub IsRefusing : Stage → Type 0
IsRefusing Open = ⊥
IsRefusing Leaving = ⊥
IsRefusing Refusing = ⊤
IsRefusing (Draining left) = ⊤

-- no whole line is held, or an answer is still to be written, or no further line is taken
abbrev pub IsIdle : {R W A : Type 0} → LineSession R W A → Type 0
IsIdle s = (s.unsent ≢ []) ⊎ (IsRefusing s.stage ⊎ HoldsNoLine s.codec s.buffer.items)

-- an end has its cause
abbrev pub EndsFor : {R W A : Type 0} (is_at_end : R → Type 0) (read_fails : R → Error → Type 0)
    (write_fails : W → Error → Type 0) (is_full : W → Type 0) → LineSession R W A → LineEnd → Type 0
EndsFor is_at_end read_fails write_fails is_full s Quit =
    (s.stage ≡ Leaving) × ((s.unsent ≡ []) ⊎ (((e : Error) × write_fails s.writer e) ⊎ is_full s.writer))
EndsFor is_at_end read_fails write_fails is_full s Ended =
    (s.stage ≡ Open) × (s.unsent ≡ []) × is_at_end s.reader × HoldsNoLine s.codec s.buffer.items
EndsFor is_at_end read_fails write_fails is_full s Refused = IsRefusing s.stage × (s.unsent ≡ [])
EndsFor is_at_end read_fails write_fails is_full s Failed =
    ((e : Error) × read_fails s.reader e) ⊎ (((e : Error) × write_fails s.writer e) ⊎ is_full s.writer)
