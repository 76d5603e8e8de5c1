-- What becomes of the lines of one connection.
use Rattle.std.specs.Prelude.{◌≡◌, ℕ, List, [], ◌∷◌, map, flat_map, All, false, true, ◌⊎◌, ⊤}
use Rattle.line_session.specs.Answering.{Answered}
use Rattle.line_session.specs.Requests.{is_request}
use Rattle.operator_port.specs.declared.reply.Lack.TheVariants as lacks
use Rattle.operator_port.specs.declared.reply.Reply.{Reply}
use Rattle.operator_port.specs.declared.reply.Reply.TheVariants.{Help, Routes, Servers, Drained, Stopping, Done, Events, Full, Metrics, Text, Failed}
use Rattle.operator_port.specs.Questions.{Query, Spells}
use Rattle.operator_port.specs.Replies.{reply_text}

-- what was asked, each with its reply
abbrev pub Asked : Type 0
Asked = List (Query × Reply)

-- the type of `asks`: a state, what was asked and replied, and the state after
abbrev pub Asks : Type 0 → Type 1
Asks K = K → Asked → K → Type 0

-- the text takes memory
abbrev pub TakesMemory : Reply → Type 0
TakesMemory Help = ⊥
TakesMemory (Routes rows) = ⊤
TakesMemory (Servers rows) = ⊤
TakesMemory (Drained drained left) = ⊤
TakesMemory (Stopping count) = ⊤
TakesMemory Done = ⊥
TakesMemory (Events rows) = ⊤
TakesMemory (Full figures) = ⊤
TakesMemory (Metrics figures) = ⊤
TakesMemory (Text text) = ⊤
TakesMemory (Failed lack) = ⊥

-- the text of a reply, or that of a lack of memory in place of one that takes memory
abbrev pub Tells : Reply → List ℕ → Type 0
Tells reply told =
    (told ≡ reply_text reply) ⊎ (TakesMemory reply × (told ≡ reply_text (Failed lacks.Memory)))

pub data Event : Type 0 where
  -- the text of a line, the question that it asks, the reply, and what was told
  asked : List ℕ → Query → Reply → List ℕ → Event
  -- a line that asks nothing
  wrong : List ℕ → Event
  -- the first line of a request over HTTP/1.1, whatever else it would ask
  foreign : List ℕ → Event

abbrev pub done_by : Event → Asked
done_by (asked line query reply told) = (query, reply) ∷ []
done_by (wrong line) = []
done_by (foreign line) = []

abbrev pub said_by : Event → Answered
said_by (asked line query reply told) = record { line = line; told = told; is_last = false }
said_by (wrong line) =
    record { line = line; told = reply_text (Failed lacks.BadCommand); is_last = false }
said_by (foreign line) =
    record { line = line; told = reply_text (Failed lacks.BadCommand); is_last = true }

abbrev pub IsRight : Event → Type 0
IsRight (asked line query reply told) = (is_request line ≡ false) × Spells query line × Tells reply told
IsRight (wrong line) = (is_request line ≡ false) × ((query : Query) → Spells query line → ⊥)
IsRight (foreign line) = is_request line ≡ true

-- Each line that asks a question was asked once, in order, and told the reply to it. The connection ends at a request over
-- HTTP, no line of which is asked, and behind nothing else.
abbrev pub AnswersBy : {K : Type 0} → Asks K → K → List Answered → K → Type 0
AnswersBy asks a xs b =
    (events : List Event) × asks a (flat_map done_by events) b × All IsRight events × (xs ≡ map said_by events)
