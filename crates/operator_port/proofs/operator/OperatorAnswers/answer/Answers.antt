use Rattle.std.proofs.Common.{sym, ap, ◌∙◌}
use Rattle.line_session.specs.Unsent.{text_bytes}
use Rattle.operator_port.specs.Questions.{view}
use Rattle.operator_port.proofs.Answered.{nothing_answered, question_answered, request_answered}
use Rattle.operator_port.proofs.operator.OperatorAnswers.answer.Goals as goal

pub returns-then-is_request : goal.returns-then-is_request
returns-then-is_request g c =
    request_answered g.K.Knows.asks g.met.K.Knows.asks_nothing _ c.args.line.now _ _
    (sym c.is_request.ensures ∙ c.if-is_request.true) (ap text_bytes c.last.ensures.0 ∙ c.fixed.ensures.0) c.last.ensures.1

pub returns-in-Some : goal.returns-in-Some
returns-in-Some g c =
    question_answered g.K.Knows.asks _ _ c.args.line.now (view c.in-Some.question) c.ask-reply.result c.tell.result
    (sym c.is_request.ensures ∙ c.if-is_request.false) c.in-Some.ensures.question c.ask-reply.ensures c.tell.ensures.told
    c.tell.ensures.more

pub returns-in-None : goal.returns-in-None
returns-in-None g c =
    nothing_answered g.K.Knows.asks g.met.K.Knows.asks_nothing c.args.self.now.knows c.args.line.now c.fixed-in-None.result
    (sym c.is_request.ensures ∙ c.if-is_request.false) c.in-None.ensures.question c.fixed-in-None.ensures.0 c.fixed-in-None.ensures.1
