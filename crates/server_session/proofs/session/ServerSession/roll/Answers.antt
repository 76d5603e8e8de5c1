use Rattle.std.proofs.Common.{◌≡◌, [], None, Some, Option, ap, sym, refl, ◌∙◌}
use Rattle.mux_history.specs.Bounds.{Bounds}
use Rattle.mux_model.specs.Steps.{RollCall, Recorded, records, rolling}
use Rattle.translate_book.specs.declared.refusal.RollRefusal.{RollRefusal}
use Rattle.server_session.specs.Past.{figures_of, add}
use Rattle.server_session.specs.State.{figures_in}
use Rattle.server_session.specs.Decide.{roll_refusal, why_roll}
use Rattle.server_session.proofs.Figures.{figures_same}
use Rattle.server_session.proofs.Calls.{roll_told, decided}
use Rattle.server_session.proofs.Rolling.{kept_rolled}
use Rattle.server_session.proofs.session.ServerSession.roll.Goals as goal

pub returns-in-Some-clause-step : goal.returns-in-Some-clause-step
returns-in-Some-clause-step c = λ p b.
    let cause : roll_refusal (figures_of p) ≡ Some c.in-Some.refusal =
    ap roll_refusal (sym (figures_same c.args.self.now p b)) ∙ sym c.roll_refusal.ensures.first ∙ c.in-Some.is in
    let e = rolling (records p.steps) in
    (p, ((roll_told p ∙ ap (λ (o : Option RollRefusal). decided why_roll o (Recorded e [])) cause, refl), refl), b)

pub returns-clause-step : goal.returns-clause-step
returns-clause-step c = λ p b.
    let mine : roll_refusal (figures_in c.args.self.now) ≡ None = sym c.roll_refusal.ensures.first ∙ c.in_default.is in
    let none : roll_refusal (figures_of p) ≡ None = ap roll_refusal (sym (figures_same c.args.self.now p b)) ∙ mine in
    let e = rolling (records p.steps) in (
      add p RollCall e,
      (
        (e, _, refl, refl, (roll_told p ∙ ap (λ (o : Option RollRefusal). decided why_roll o (Recorded e [])) none, refl)),
        c.carry_on.ensures.result ∙ (λ i. record { records = b.records i; room = ap (λ (l : Bounds). l.history) b.limits i }),
      ),
      rw c.carry_on.ensures.new (kept_rolled c.args.self.now p b),
    )
