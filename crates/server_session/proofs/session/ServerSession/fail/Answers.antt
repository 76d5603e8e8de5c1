use Rattle.std.proofs.Common.{◌≡◌, true, false, Bool, None, refl, sym, ap, ◌∙◌, if◌then◌else◌}
use Rattle.mux_message.specs.Made.{rerr_on}
use Rattle.mux_history.specs.declared.name.Name.{Name}
use Rattle.mux_history.specs.declared.kind.RecordKind.TheVariants as kinds
use Rattle.mux_model.specs.Steps.{FailCall, Refused, NotMine, records}
use Rattle.mux_history.specs.Readings.{answer_due}
use Rattle.mux_model.specs.Down.{is_mine, answer}
use Rattle.std.specs.Prelude.{codes}
use Rattle.server_session.specs.Steps.{is_failed}
use Rattle.server_session.specs.State.{due_in}
use Rattle.server_session.proofs.Answering.{answer_goal, goes_out, undue, one_missing}
use Rattle.server_session.proofs.Shapes.{failed, failed_late}
use Rattle.server_session.proofs.session.ServerSession.fail.Goals as goal

pub returns-in_default-clause-step : goal.returns-in_default-clause-step
returns-in_default-clause-step c = λ p b.
    let n = c.args.lost.name in
    let none : due_in c.args.self.now n false true ≡ None = ap (λ (m : Name). due_in c.args.self.now m false true) (sym c.name-name.ensures) ∙ sym c.due.ensures.value ∙ c.in_default.is in
    (p, ((ap (λ (z : Bool). if z then answer p.session p.steps n kinds.Failed false (λ t. rerr_on t (codes "upstream lost")) else Refused NotMine) (one_missing (is_mine p.session n) (answer_due n (records p.steps)) (undue c.args.self.now p n false true refl b none)), refl), refl), b)

pub returns-clause-step : goal.returns-clause-step
returns-clause-step c = λ p b.
    answer_goal c.args.self.now p c.args.lost.name c.name-name.result c.in-Some.tag (λ k. FailCall k) kinds.Failed false ((λ t. rerr_on t (codes "upstream lost"))) c.upstream_lost-reply.result.frame is_failed c.of.result _ b c.name-name.ensures
    (sym c.due.ensures.value ∙ c.in-Some.is)
    (λ k x own at mine due noted. rw (mine, due) refl)
    (λ t. refl) (λ t. refl) refl (λ t seq. failed p t seq (rerr_on t (codes "upstream lost"))) (failed_late p) (goes_out c.args.self.now.book c.name-name.result.seq c.answer-sent.ensures.result c.of.ensures) c.answer-sent.ensures.new c.upstream_lost-reply.ensures
