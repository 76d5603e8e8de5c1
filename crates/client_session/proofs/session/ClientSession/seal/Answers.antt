use Rattle.std.proofs.Common.{◌≡◌, ℕ, Bool, cond, length, [], None, Some, Option, ap, sym, refl, ◌∙◌, subst, arith}
use Rattle.mux_history.specs.Bounds.{Bounds}
use Rattle.std.specs.Prelude.{reverse}
use Rattle.mux_history.specs.Log.{Log}
use Rattle.mux_history.specs.Readings.{written}
use Rattle.mux_history.specs.Standings.{up_standing}
use Rattle.mux_model.specs.Steps.{SealCall, Recorded, records, sealing}
use Rattle.translate_book.specs.declared.refusal.SealRefusal.{SealRefusal}
use Rattle.client_session.specs.Past.{figures_of, add}
use Rattle.client_session.specs.State.{State, figures_in}
use Rattle.client_session.specs.Inside.{state_of}
use Rattle.client_session.specs.Belonging.{Belongs}
use Rattle.client_session.specs.Decide.{seal_refusal, why_seal}
use Rattle.client_session.proofs.Deciding.{figures_same}
use Rattle.client_session.proofs.Sealing.{kept_sealed, seal_idle, seal_open}
use Rattle.client_session.proofs.Open.{none_fresh}
use Rattle.client_session.proofs.Telling.{seal_told, decided}
use Rattle.client_session.proofs.session.ClientSession.seal.Goals as goal

pub returns-in-Some-clause-step : goal.returns-in-Some-clause-step
returns-in-Some-clause-step c = λ p b.
    let cause : seal_refusal (figures_of p) ≡ Some c.in-Some.refusal =
    ap seal_refusal (sym (figures_same c.args.self.now p b)) ∙ sym c.seal_refusal.ensures.first ∙ c.in-Some.is in
    let e = sealing (records p.steps) (up_standing p.session.mode (records p.steps)) in
    (p, ((seal_told p ∙ ap (λ (o : Option SealRefusal). decided why_seal o (Recorded e [])) cause, refl), refl), b)

pub write-requires-clause-records : goal.write-requires-clause-records
write-requires-clause-records c =
    let mine : seal_refusal (figures_in c.args.self.now) ≡ None = sym c.seal_refusal.ensures.first ∙ c.in_default.is in
    let inner = rw (← c.self.view_is) at mine in
    let room = rw (← c.self.view_is) at c.seal_refusal.ensures.room in
    let load = seal_idle (figures_in (state_of c.self.inside)) inner in
    let fresh = none_fresh c.self.inside.entries.entries load in
    let one : ◌≡◌ {A = ℕ} (cond c.self.inside.closed 0 1) 1 = ap (λ (z : Bool). cond z 0 1) (seal_open (figures_in (state_of c.self.inside)) inner) in
    let empty : length c.replace-sealed.new.dest.records ≡ 0 = ap (λ (h : Log). length h.records) c.replace-sealed.ensures.after ∙ ap length c.requires.empty in
    omega (arith, load, fresh, room, one, empty)

pub returns-clause-step : goal.returns-clause-step
returns-clause-step c = λ p b.
    let mine : seal_refusal (figures_in c.args.self.now) ≡ None = sym c.seal_refusal.ensures.first ∙ c.in_default.is in
    let none : seal_refusal (figures_of p) ≡ None = ap seal_refusal (sym (figures_same c.args.self.now p b)) ∙ mine in
    let e = sealing (records p.steps) (up_standing p.session.mode (records p.steps)) in
    let was : c.self.inside.history.records ≡ reverse (written (records p.steps)) = ap (λ (s : State). s.records) c.self.view_is ∙ b.records in
    let room : c.self.inside.history.room ≡ p.session.limits.history =
    c.self.invariant.history_room ∙ ap (λ (s : State). s.limits.history) c.self.view_is ∙ ap (λ (l : Bounds). l.history) b.limits in
    let sealed : c.self.inside.history ≡ record { records = reverse (written (records p.steps)); room = p.session.limits.history } =
    λ i. record { records = was i; room = room i } in
    let kept = kept_sealed _ p (subst (λ (s : State). Belongs s p) (sym c.self.view_is) b) (rw (← c.self.view_is) at mine) in (
      add p SealCall e,
      (
        (e, (seal_told p ∙ ap (λ (o : Option SealRefusal). decided why_seal o (Recorded e [])) none, refl)),
        c.replace-sealed.ensures.value ∙ sealed,
      ),
      rw (c.write.ensures, c.standing-standing.ensures, ← c.self.view_is, c.replace-sealed.ensures.after, c.requires.empty) kept,
    )
