use Rattle.std.proofs.Common.{◌≡◌, [], ◌∷◌, None, Some, ap, sym, refl, ◌∙◌}
use Rattle.mux_history.specs.declared.kind.RecordKind.TheVariants as kinds
use Rattle.mux_model.specs.Steps.{LoseNextCall, LostOf, Recorded, records, entry_of}
use Rattle.translate_book.specs.declared.sent.Lost.{Lost}
use Rattle.client_session.specs.Past.{Dispatch, add}
use Rattle.client_session.specs.State.{State}
use Rattle.client_session.proofs.Keeping.{kept_lost_one}
use Rattle.client_session.proofs.Stepping.{lost_told, none_told}
use Rattle.client_session.proofs.session.ClientSession.lose_next.Goals as goal

pub returns-in_default : goal.returns-in_default
returns-in_default c = record {
  step = λ p b. (
    p,
    (none_told c.args.self.now p b c.in_default.ensures.none, refl),
    rw c.in_default.ensures.unchanged b,
  );
}

pub returns : goal.returns
returns c = record {
  step = λ p b.
      let tag = c.in-Some.tag in
      let ended = ap (λ (s : State). s.closed) (sym c.self.view_is) ∙ c.if-not-self.false in
      let held = c.in-Some.ensures.held in
      let name = c.holding.inside.sent.name in
      let named : c.in-Some.holding.name ≡ Some name = ap (λ (d : Dispatch). d.name) (sym c.holding.view_is) in
      let e = entry_of (records p.steps) 0 kinds.LostOne tag (Some name) None None in (
        add p LoseNextCall e,
        (e, (lost_told c.args.self.now p tag _ name b ended held named c.in-Some.ensures.least ∙ ap (λ (x : Lost). Recorded e (LostOf x.name ∷ [])) (sym c.lost.ensures), refl)),
        rw (c.write.ensures, c.in-Some.ensures.new, c.name.ensures) (kept_lost_one c.args.self.now p tag (Some name) b ended),
      );
}
