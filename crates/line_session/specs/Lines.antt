-- What becomes of the lines that a connection reads.
use Rattle.std.specs.Prelude.{◌≡◌, ◌≢◌, ℕ, ◌≤◌, ◌==◌, List, [], ◌∷◌, ◌++◌, length, codes, Bool, not, IsTrue, IsFalse, IsUtf8, ⊤}
use Rattle.std.specs.List.{list_all}
use Rattle.std.specs.IoError.{error_kind}
use Rattle.std.specs.declared.io.ErrorKind.TheVariants.{OutOfMemory}
use Rattle.tokio_util.specs.Codec.Lines.{without_carriage_return}
use Rattle.tokio_util.specs.declared.codec.lines_codec.LinesCodecError.{LinesCodecError}
use Rattle.tokio_util.specs.declared.codec.lines_codec.LinesCodecError.TheVariants.{MaxLineLengthExceeded, Io}
use Rattle.line_session.specs.Answering.{Answered}

-- no byte is this one
abbrev pub lacks : ℕ → List ℕ → Bool
lacks byte text = list_all (λ b. not (b == byte)) text

-- a line without its line feed; a carriage return at its end counts
abbrev pub IsLine : List ℕ → Type 0
IsLine line = (length line ≤ 1024) × IsTrue (lacks 10 line)

abbrev pub with_line_feed : List ℕ → List ℕ
with_line_feed line = line ++ (10 ∷ [])

-- why no further line is taken
pub data Refusal : Type 0 where
  too_long : Refusal
  no_text : Refusal
  no_memory : Refusal

pub data Event : Type 0 where
  answered : Answered → Event
  refused : Refusal → Event

-- the text of the line, if there is one
abbrev pub line_of : Event → List (List ℕ)
line_of (answered a) = a.line ∷ []
line_of (refused why) = []

-- what was answered
abbrev pub done_by : Event → List Answered
done_by (answered a) = a ∷ []
done_by (refused why) = []

abbrev pub refusal_text : Refusal → List ℕ
refusal_text too_long = with_line_feed (codes "error TooLong")
refusal_text no_text = with_line_feed (codes "error BadCommand")
refusal_text no_memory = with_line_feed (codes "error Memory")

-- what the other side is told
abbrev pub told_by : Event → List ℕ
told_by (answered a) = a.told
told_by (refused why) = refusal_text why

-- further lines may follow
abbrev pub IsPlain : Event → Type 0
IsPlain (answered a) = IsFalse a.is_last
IsPlain (refused why) = ⊥

-- a line was answered, and the connection ends behind the answer
abbrev pub IsLeave : Event → Type 0
IsLeave (answered a) = IsTrue a.is_last
IsLeave (refused why) = ⊥

-- these bytes show why: the line at their front is too long or no text
abbrev pub Shows : List ℕ → Refusal → Type 0
Shows rest too_long =
    (front tail : List ℕ) × (rest ≡ front ++ tail) × (length front ≡ 1025) × IsTrue (lacks 10 front)
Shows rest no_text =
    (line tail : List ℕ) × (rest ≡ line ++ (10 ∷ tail)) × IsLine line
    × ¬ (IsUtf8 (without_carriage_return line))
Shows rest no_memory = ⊤

abbrev pub IsRefused : List ℕ → Event → Type 0
IsRefused rest (answered a) = ⊥
IsRefused rest (refused why) = Shows rest why

-- why a fault of the codec refuses a line
abbrev pub Because : LinesCodecError → Refusal → Type 0
Because MaxLineLengthExceeded too_long = ⊤
Because MaxLineLengthExceeded no_text = ⊥
Because MaxLineLengthExceeded no_memory = ⊥
Because (Io e) too_long = ⊥
Because (Io e) no_text = error_kind e ≢ OutOfMemory
Because (Io e) no_memory = error_kind e ≡ OutOfMemory
