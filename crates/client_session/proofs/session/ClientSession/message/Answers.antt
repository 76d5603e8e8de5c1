use Rattle.std.proofs.Common.{sym, ◌∙◌}
use Rattle.client_session.proofs.Stepping.{settle_step, refuse_step, answer_step, as_read}
use Rattle.client_session.proofs.session.ClientSession.message.Goals as goal

pub returns-then-settles-clause-step : goal.returns-then-settles-clause-step
returns-then-settles-clause-step c = λ p b.
    let m = c.args.message in
    settle_step c.args.self.now p c.args.now m.frame m.content c.settle.result _ b c.requires.open c.requires.read c.requires.spelled
    (sym c.settles.ensures ∙ c.if-settles.true)
    (c.settle.ensures.reply ∙ as_read c.into_frame.result m.frame c.into_frame.ensures.frame c.into_frame.ensures.as_read)
    (rw c.into_frame.ensures.frame at c.settle.ensures.given)
    (rw c.into_frame.ensures.frame at c.settle.ensures.new)

pub returns-in-Some-clause-step : goal.returns-in-Some-clause-step
returns-in-Some-clause-step c = λ p b.
    let m = c.args.message in
    refuse_step c.args.self.now p c.args.now m.frame m.content c.in-Some.refusal c.into_frame-in-Some.result b c.requires.open c.requires.read
    (sym c.settles.ensures ∙ c.if-settles.false)
    (sym c.room_refusal.ensures ∙ c.in-Some.is)
    (as_read c.into_frame-in-Some.result m.frame c.into_frame-in-Some.ensures.frame c.into_frame-in-Some.ensures.as_read)

pub returns-clause-step : goal.returns-clause-step
returns-clause-step c = λ p b.
    let m = c.args.message in
    answer_step c.args.self.now p c.args.now m.frame m.content c.answer.result _ b c.requires.open c.requires.read c.requires.spelled
    (sym c.settles.ensures ∙ c.if-settles.false)
    (sym c.room_refusal.ensures ∙ c.in_default.is)
    c.answer.ensures.0 c.answer.ensures.1
