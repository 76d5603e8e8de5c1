use Rattle.std.proofs.Common.{◌≡◌, [], ◌∷◌, None, Some, Option, ap, sym, refl, ◌∙◌}
use Rattle.mux_history.specs.declared.kind.RecordKind.TheVariants as kinds
use Rattle.mux_message.specs.Made.{retag}
use Rattle.mux_model.specs.Steps.{PlacedAt, Recorded, records, entry_of}
use Rattle.translate_book.specs.declared.refusal.OfferRefusal.{OfferRefusal}
use Rattle.client_session.specs.Past.{Figures, figures_of}
use Rattle.client_session.specs.State.{figures_in}
use Rattle.client_session.specs.Decide.{offer_refusal}
use Rattle.client_session.proofs.Deciding.{figures_same}
use Rattle.client_session.proofs.Sending.{sent_on}
use Rattle.client_session.proofs.Telling.{offer_told, offered, turned_away}
use Rattle.client_session.proofs.Stepping.{kind_spelled}
use Rattle.client_session.proofs.session.ClientSession.offer.Goals as goal

pub returns-in-Some-clause-step : goal.returns-in-Some-clause-step
returns-in-Some-clause-step c = λ p b.
    let cause : offer_refusal (figures_of p) c.args.now ≡ Some c.in-Some.refusal =
    ap (λ (f : Figures). offer_refusal f c.args.now) (sym (figures_same c.args.self.now p b)) ∙ sym c.offer_refusal.ensures ∙ c.in-Some.is in
    (p, ((λ t. turned_away p t c.args.ticket c.args.now c.in-Some.refusal cause), refl, refl), b)

pub returns-in-Ok-clause-step : goal.returns-in-Ok-clause-step
returns-in-Ok-clause-step c = λ p b.
    let t = c.args.ticket in
    sent_on c.args.self.now p t c.args.now c.in-Ok.sent c.in-Ok.frame.frame c.accept.result _ b
    (sym c.offer_refusal.ensures ∙ c.in_default.is) (kind_spelled t.frame t.content c.into_sent.ensures.spelled ∙ c.into_sent.ensures.dispatch)
    c.in-Ok.ensures.mark c.in-Ok.ensures.frame c.accept.ensures.placed c.accept.ensures.tag c.accept.ensures.new

pub returns-in-Err-clause-step : goal.returns-in-Err-clause-step
returns-in-Err-clause-step c = λ p b.
    let mine : offer_refusal (figures_in c.args.self.now) c.args.now ≡ None = sym c.offer_refusal.ensures ∙ c.in_default.is in
    let none : offer_refusal (figures_of p) c.args.now ≡ None = ap (λ (f : Figures). offer_refusal f c.args.now) (sym (figures_same c.args.self.now p b)) ∙ mine in
    let n = c.args.ticket.name in
    let f = c.args.ticket.frame in (
      p,
      (
        λ t.
            let e = entry_of (records p.steps) c.args.now kinds.Offered t (Some n) None (Some (retag t f)) in
            let gives = PlacedAt n p.session.number t ∷ [] in
            (c.in-Err.ensures.err.1, e, gives, offer_told p t n f c.args.ticket.left c.args.now ∙ ap (λ (o : Option OfferRefusal). offered o (Recorded e gives)) none),
        refl,
        c.in-Err.ensures.err.0,
      ),
      b,
    )
