use Rattle.std.proofs.Common.{ap, ◌∙◌, sym}
use Rattle.client_session.specs.State.{State}
use Rattle.client_session.proofs.Stepping.{fault_step}
use Rattle.client_session.proofs.session.ClientSession.frame.Goals as goal

pub returns-clause-step : goal.returns-clause-step
returns-clause-step c = λ p b.
    fault_step c.args.self.now p c.args.now c.args.frame c.in-Err.fault c.cause_of-cause.result _ b
    (ap (λ (s : State). s.closed) (sym c.self.view_is) ∙ c.if-self.false)
    c.in-Err.ensures.exact.1
    c.cause_of-cause.ensures c.close_for.ensures
