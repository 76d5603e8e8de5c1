use Rattle.std.proofs.Common.{◌≡◌, [], None, Some, Option, ap, sym, refl, ◌∙◌}
use Rattle.mux_history.specs.declared.kind.RecordKind.TheVariants as kinds
use Rattle.mux_model.specs.Steps.{ClockCall, Recorded, records, entry_of}
use Rattle.translate_book.specs.declared.refusal.StepRefusal.{StepRefusal}
use Rattle.client_session.specs.Past.{figures_of, add}
use Rattle.client_session.specs.Decide.{record_refusal, why_step}
use Rattle.client_session.proofs.Deciding.{figures_same}
use Rattle.client_session.proofs.Keeping.{kept_clock}
use Rattle.client_session.proofs.Telling.{clock_told, decided}
use Rattle.client_session.proofs.session.ClientSession.clock.Goals as goal

pub returns-in-Some-clause-step : goal.returns-in-Some-clause-step
returns-in-Some-clause-step c = λ p b.
    let cause : record_refusal (figures_of p) ≡ Some c.in-Some.refusal =
    ap record_refusal (sym (figures_same c.args.self.now p b)) ∙ sym c.record_refusal.ensures ∙ c.in-Some.is in
    let e = entry_of (records p.steps) c.args.now kinds.Clock 0 None None None in
    (p, (clock_told p c.args.now ∙ ap (λ (o : Option StepRefusal). decided why_step o (Recorded e [])) cause, refl), b)

pub returns-clause-step : goal.returns-clause-step
returns-clause-step c = λ p b.
    let none : record_refusal (figures_of p) ≡ None =
    ap record_refusal (sym (figures_same c.args.self.now p b)) ∙ sym c.record_refusal.ensures ∙ c.in_default.is in
    let e = entry_of (records p.steps) c.args.now kinds.Clock 0 None None None in (
      add p (ClockCall c.args.now) e,
      (e, (clock_told p c.args.now ∙ ap (λ (o : Option StepRefusal). decided why_step o (Recorded e [])) none, refl)),
      rw c.write.ensures (kept_clock c.args.self.now p c.args.now b),
    )
