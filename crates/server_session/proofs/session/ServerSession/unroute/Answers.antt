use Rattle.std.proofs.Common.{◌≡◌, true, Bool, None, refl, sym, ap, ◌∙◌, if◌then◌else◌}
use Rattle.mux_message.specs.Made.{rerr_on}
use Rattle.mux_history.specs.declared.name.Name.{Name}
use Rattle.mux_history.specs.declared.kind.RecordKind.TheVariants as kinds
use Rattle.mux_model.specs.Steps.{UnrouteCall, Refused, NotMine, records}
use Rattle.mux_history.specs.Readings.{answer_due, note_due}
use Rattle.mux_model.specs.Down.{is_mine, answer}
use Rattle.std.specs.Prelude.{codes}
use Rattle.server_session.specs.Steps.{is_unrouted}
use Rattle.server_session.specs.State.{due_in}
use Rattle.server_session.proofs.Answering.{answer_goal, goes_out, undue, two_missing}
use Rattle.server_session.proofs.Shapes.{unrouted, unrouted_late}
use Rattle.server_session.proofs.session.ServerSession.unroute.Goals as goal

pub returns-in_default-clause-step : goal.returns-in_default-clause-step
returns-in_default-clause-step c = λ p b.
    let n = c.args.ticket.name in
    let none : due_in c.args.self.now n true true ≡ None = ap (λ (m : Name). due_in c.args.self.now m true true) (sym c.name-name.ensures) ∙ sym c.due.ensures.value ∙ c.in_default.is in
    (p, ((ap (λ (z : Bool). if z then answer p.session p.steps n kinds.Unrouted true (λ t. rerr_on t (codes "no route")) else Refused NotMine) (two_missing (is_mine p.session n) (answer_due n (records p.steps)) (note_due n (records p.steps)) (undue c.args.self.now p n true true refl b none)), refl), refl), b)

pub returns-clause-step : goal.returns-clause-step
returns-clause-step c = λ p b.
    answer_goal c.args.self.now p c.args.ticket.name c.name-name.result c.in-Some.tag (λ k. UnrouteCall k) kinds.Unrouted true ((λ t. rerr_on t (codes "no route"))) c.no_route.result.frame is_unrouted c.of.result _ b c.name-name.ensures
    (sym c.due.ensures.value ∙ c.in-Some.is)
    (λ k x own at mine due noted. rw (mine, due, noted refl) refl)
    (λ t. refl) (λ t. refl) refl (λ t seq. unrouted p t seq (rerr_on t (codes "no route"))) (unrouted_late p) (goes_out c.args.self.now.book c.name-name.result.seq c.answer-sent.ensures.result c.of.ensures) c.answer-sent.ensures.new c.no_route.ensures
