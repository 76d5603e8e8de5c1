use Rattle.std.proofs.Common.{◌≡◌, [], None, false, true, Bool, ap, sym, refl, ◌∙◌, cond}
use Rattle.mux_history.specs.declared.kind.RecordKind.TheVariants as kinds
use Rattle.mux_model.specs.Steps.{LoseCall, Unrecorded, Recorded, records, entry_of}
use Rattle.server_session.specs.Past.{add}
use Rattle.server_session.specs.State.{State}
use Rattle.server_session.specs.Steps.{next}
use Rattle.server_session.proofs.Calls.{kept_lost}
use Rattle.server_session.proofs.session.ServerSession.lose.Goals as goal

pub returns-then-not-self : goal.returns-then-not-self
returns-then-not-self c = record {
  step = λ p b.
      let up : c.args.self.now.closed ≡ false = ap (λ (s : State). s.closed) (sym c.self.view_is) ∙ c.if-not-self.true in
      let e = entry_of (records p.steps) c.args.now kinds.Lost 0 None None None in (
        add p (LoseCall c.args.now) e,
        (refl, sym (ap (λ (z : Bool). next p (LoseCall c.args.now) (cond z Unrecorded (Recorded e []))) (sym b.closed ∙ up))),
        rw c.close.ensures (kept_lost c.args.self.now p c.args.now b),
      );
}

pub returns-else-not-self : goal.returns-else-not-self
returns-else-not-self c = record {
  step = λ p b.
      let ended : c.args.self.now.closed ≡ true = ap (λ (s : State). s.closed) (sym c.self.view_is) ∙ c.if-not-self.false in
      let e = entry_of (records p.steps) c.args.now kinds.Lost 0 None None None in
      (p, (refl, sym (ap (λ (z : Bool). next p (LoseCall c.args.now) (cond z Unrecorded (Recorded e []))) (sym b.closed ∙ ended))), b);
}
