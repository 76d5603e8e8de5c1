use Rattle.std.proofs.Common.{◌≡◌, [], None, Some, Option, ap, sym, refl, ◌∙◌, subst}
use Rattle.mux_history.specs.declared.kind.RecordKind.TheVariants as kinds
use Rattle.mux_message.specs.Made.{tping_on}
use Rattle.mux_model.specs.Steps.{PingCall, Recorded, records, entry_of}
use Rattle.client_session.specs.declared.answers.PingRefusal.{PingRefusal}
use Rattle.client_session.specs.Past.{figures_of, add}
use Rattle.client_session.specs.State.{State, figures_in}
use Rattle.client_session.specs.Belonging.{Belongs}
use Rattle.client_session.specs.Decide.{ping_refusal, why_ping}
use Rattle.client_session.proofs.Deciding.{figures_same}
use Rattle.client_session.proofs.Keeping.{kept_ping}
use Rattle.client_session.proofs.Telling.{ping_told, decided, no_ping}
use Rattle.client_session.proofs.session.ClientSession.ping.Goals as goal

pub returns-in-Some-clause-step : goal.returns-in-Some-clause-step
returns-in-Some-clause-step c = λ p b.
    let cause : ping_refusal (figures_of p) ≡ Some c.in-Some.refusal =
    ap ping_refusal (sym (figures_same c.args.self.now p b)) ∙ sym c.ping_refusal.ensures ∙ c.in-Some.is in
    let e = entry_of (records p.steps) c.args.now kinds.PingSent 1 None None (Some (tping_on 1)) in
    (p, (ping_told p c.args.now ∙ ap (λ (o : Option PingRefusal). decided why_ping o (Recorded e [])) cause, refl), b)

pub returns-clause-step : goal.returns-clause-step
returns-clause-step c = λ p b.
    let mine : ping_refusal (figures_in c.args.self.now) ≡ None = sym c.ping_refusal.ensures ∙ c.in_default.is in
    let none : ping_refusal (figures_of p) ≡ None = ap ping_refusal (sym (figures_same c.args.self.now p b)) ∙ mine in
    let e = entry_of (records p.steps) c.args.now kinds.PingSent 1 None None (Some (tping_on 1)) in (
      add p (PingCall c.args.now) e,
      (e, (ping_told p c.args.now ∙ ap (λ (o : Option PingRefusal). decided why_ping o (Recorded e [])) none, refl)),
      rw (c.write.ensures, c.tping.ensures)
          (kept_ping _ p c.args.now (subst (λ (s : State). Belongs s p) (sym c.self.view_is) b)
          (ap (λ (s : State). s.ping) c.self.view_is ∙ no_ping (figures_in c.args.self.now) mine)),
    )
