use Rattle.std.proofs.Common.{◌≡◌, [], None, Some, Option, ap, sym, refl, ◌∙◌}
use Rattle.mux_history.specs.Bounds.{Bounds}
use Rattle.mux_history.specs.Standings.{down_standing}
use Rattle.mux_model.specs.Steps.{SealCall, Recorded, records, sealing}
use Rattle.translate_book.specs.declared.refusal.SealRefusal.{SealRefusal}
use Rattle.server_session.specs.Past.{figures_of, add}
use Rattle.server_session.specs.State.{figures_in}
use Rattle.server_session.specs.Decide.{seal_refusal, why_seal}
use Rattle.server_session.proofs.Figures.{figures_same}
use Rattle.server_session.proofs.Calls.{seal_told, decided}
use Rattle.server_session.proofs.Sealing.{kept_sealed, may_seal}
use Rattle.server_session.proofs.session.ServerSession.seal.Goals as goal

pub returns-in-Some-clause-step : goal.returns-in-Some-clause-step
returns-in-Some-clause-step c = λ p b.
    let cause : seal_refusal (figures_of p) ≡ Some c.in-Some.refusal =
    ap seal_refusal (sym (figures_same c.args.self.now p b)) ∙ sym c.seal_refusal.ensures ∙ c.in-Some.is in
    let e = sealing (records p.steps) (down_standing (records p.steps)) in
    (p, ((seal_told p ∙ ap (λ (o : Option SealRefusal). decided why_seal o (Recorded e [])) cause, refl), refl), b)

pub returns-clause-step : goal.returns-clause-step
returns-clause-step c = λ p b.
    let mine : seal_refusal (figures_in c.args.self.now) ≡ None = sym c.seal_refusal.ensures ∙ c.in_default.is in
    let same = figures_same c.args.self.now p b in
    let none : seal_refusal (figures_of p) ≡ None = ap seal_refusal (sym same) ∙ mine in
    let may = may_seal (figures_in c.args.self.now) mine in
    let e = sealing (records p.steps) (down_standing (records p.steps)) in (
      add p SealCall e,
      (
        (e, _, refl, refl, (seal_told p ∙ ap (λ (o : Option SealRefusal). decided why_seal o (Recorded e [])) none, refl)),
        c.begin_epoch.ensures.result ∙ (λ i. record { records = b.records i; room = ap (λ (l : Bounds). l.history) b.limits i }),
      ),
      rw c.begin_epoch.ensures.new (kept_sealed c.args.self.now p b may.up may.quiet),
    )
