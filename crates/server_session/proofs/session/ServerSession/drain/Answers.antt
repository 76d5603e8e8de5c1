use Rattle.std.proofs.Common.{◌≡◌, [], None, Some, Option, ap, sym, refl, ◌∙◌, subst}
use Rattle.mux_history.specs.declared.kind.RecordKind.TheVariants as kinds
use Rattle.mux_message.specs.Made.{tdrain_on}
use Rattle.mux_model.specs.Steps.{DrainCall, Recorded, records, entry_of}
use Rattle.server_session.specs.declared.answers.DrainRefusal.{DrainRefusal}
use Rattle.server_session.specs.Past.{figures_of, add}
use Rattle.server_session.specs.State.{State, figures_in}
use Rattle.server_session.specs.Belonging.{Belongs}
use Rattle.server_session.specs.Decide.{drain_refusal, why_drain}
use Rattle.server_session.proofs.Figures.{figures_same}
use Rattle.server_session.proofs.Calls.{drain_told, decided, kept_drain, running}
use Rattle.server_session.proofs.session.ServerSession.drain.Goals as goal

pub returns-in-Some-clause-step : goal.returns-in-Some-clause-step
returns-in-Some-clause-step c = λ p b.
    let cause : drain_refusal (figures_of p) ≡ Some c.in-Some.refusal =
    ap drain_refusal (sym (figures_same c.args.self.now p b)) ∙ sym c.drain_refusal.ensures ∙ c.in-Some.is in
    let e = entry_of (records p.steps) 0 kinds.DrainAsked 1 None None (Some (tdrain_on 1)) in
    (p, (drain_told p ∙ ap (λ (o : Option DrainRefusal). decided why_drain o (Recorded e [])) cause, refl), b)

pub returns-clause-step : goal.returns-clause-step
returns-clause-step c = λ p b.
    let mine : drain_refusal (figures_in c.args.self.now) ≡ None = sym c.drain_refusal.ensures ∙ c.in_default.is in
    let same = figures_same c.args.self.now p b in
    let none : drain_refusal (figures_of p) ≡ None = ap drain_refusal (sym same) ∙ mine in
    let e = entry_of (records p.steps) 0 kinds.DrainAsked 1 None None (Some (tdrain_on 1)) in (
      add p DrainCall e,
      (e, _, refl, refl, (drain_told p ∙ ap (λ (o : Option DrainRefusal). decided why_drain o (Recorded e [])) none, refl)),
      rw (c.write.ensures, c.tdrain.ensures, c.ask.ensures)
          (kept_drain _ p (subst (λ (s : State). Belongs s p) (sym c.self.view_is) b) (running (figures_of p) none)),
    )
