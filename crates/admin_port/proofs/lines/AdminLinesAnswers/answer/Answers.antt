use Rattle.std.proofs.Common.{[], ◌∷◌, sym, ap, subst, ◌∙◌}
use Rattle.line_session.specs.Unsent.{text_bytes}
use Rattle.admin_port.specs.Carrying.{AnswersBy}
use Rattle.admin_port.proofs.Carrying.{line_answered, request_answered}
use Rattle.admin_port.proofs.lines.AdminLinesAnswers.answer.Goals as goal

pub returns : goal.returns
returns g c =
    subst (λ last. AnswersBy g.O.Orders.obeys c.args.self.now.orders
    (record { line = c.args.line.now; told = text_bytes c.tell.result.text; is_last = last } ∷ []) c.carry_out-reply.new.self.orders)
    (sym c.tell.ensures.last)
    (line_answered g.O.Orders.obeys g.met.O.Orders.obeys_nothing _ _ c.args.line.now _ c.carry_out-reply.result
    (sym c.is_request.ensures ∙ c.if-is_request.false) c.carry_out-reply.ensures.done c.tell.ensures.told)

pub returns-then-is_request : goal.returns-then-is_request
returns-then-is_request g c =
    request_answered g.O.Orders.obeys g.met.O.Orders.obeys_nothing _ c.args.line.now _ _
    (sym c.is_request.ensures ∙ c.if-is_request.true) (ap text_bytes c.last.ensures.0 ∙ c.fixed.ensures.0) c.last.ensures.1
