-- Lines and their answers.
use Rattle.std.specs.Prelude.{ℕ, List, Bool}
use Rattle.line_session.specs.declared.line_answer.LineAnswer.{LineAnswer}
use Rattle.line_session.specs.Unsent.{text_bytes}

-- the text of a line, what it was told, and whether the connection ends behind that
pub record Answered : Type 0 where
  pub line : List ℕ
  pub told : List ℕ
  pub is_last : Bool

abbrev pub answered_with : List ℕ → LineAnswer → Answered
answered_with line answer = record { line = line; told = text_bytes answer.text; is_last = answer.is_last }

-- the type of `answers`: a state, the lines that were answered, and the state after
abbrev pub Serves : Type 0 → Type 1
Serves A = A → List Answered → A → Type 0
