-- What one line leads to.
use Rattle.std.proofs.Common.{◌≡◌, ℕ, List, [], ◌∷◌, Bool, false, true, ap, ◌∙◌}
use Rattle.std.proofs.lemmas.List.Elements.{All-cons, All-nil}
use Rattle.line_session.specs.Answering.{answered_with}
use Rattle.line_session.specs.Requests.{is_request}
use Rattle.line_session.specs.Unsent.{text_bytes}
use Rattle.line_session.specs.declared.line_answer.LineAnswer.{LineAnswer}
use Rattle.operator_port.specs.declared.reply.Lack.TheVariants as lacks
use Rattle.operator_port.specs.declared.reply.Reply.{Reply}
use Rattle.operator_port.specs.declared.reply.Reply.TheVariants.{Failed}
use Rattle.operator_port.specs.Asking.{AnswersBy, Asks, IsRight, Tells, asked, foreign, wrong}
use Rattle.operator_port.specs.Questions.{Query, Spells}
use Rattle.operator_port.specs.Replies.{reply_text}

pub question_answered : {K : Type 0} (asks : Asks K) (a b : K) (line : List ℕ) (query : Query) (reply : Reply) (answer : LineAnswer)
    → is_request line ≡ false → Spells query line → asks a ((query, reply) ∷ []) b → Tells reply (text_bytes answer.text) → answer.is_last ≡ false
    → AnswersBy asks a (answered_with line answer ∷ []) b
question_answered asks a b line query reply answer ours is asked_so tells more = (
  asked line query reply (text_bytes answer.text) ∷ [],
  asked_so,
  All-cons IsRight (asked line query reply (text_bytes answer.text)) [] (ours, is, tells) (All-nil IsRight),
  ap (λ last. record { line = line; told = text_bytes answer.text; is_last = last } ∷ []) more,
)

pub nothing_answered : {K : Type 0} (asks : Asks K) → ((s : K) → asks s [] s) → (a : K) (line : List ℕ) (answer : LineAnswer)
    → is_request line ≡ false → ((query : Query) → Spells query line → ⊥) → text_bytes answer.text ≡ reply_text (Failed lacks.BadCommand)
    → answer.is_last ≡ false → AnswersBy asks a (answered_with line answer ∷ []) a
nothing_answered asks nothing a line answer ours none told more = (
  wrong line ∷ [],
  nothing a,
  All-cons IsRight (wrong line) [] (ours, none) (All-nil IsRight),
  ap (λ last. record { line = line; told = text_bytes answer.text; is_last = last } ∷ []) more
      ∙ ap (λ t. record { line = line; told = t; is_last = false } ∷ []) told,
)

pub request_answered : {K : Type 0} (asks : Asks K) → ((s : K) → asks s [] s) → (a : K) (line told : List ℕ) (last : Bool)
    → is_request line ≡ true → told ≡ reply_text (Failed lacks.BadCommand) → last ≡ true
    → AnswersBy asks a (record { line = line; told = told; is_last = last } ∷ []) a
request_answered asks nothing a line told last is says ends = (
  foreign line ∷ [],
  nothing a,
  All-cons IsRight (foreign line) [] is (All-nil IsRight),
  ap (λ b. record { line = line; told = told; is_last = b } ∷ []) ends
      ∙ ap (λ t. record { line = line; told = t; is_last = true } ∷ []) says,
)
