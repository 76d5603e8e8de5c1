use Rattle.std.proofs.Common.{◌≡◌, ℕ, Bool, cond, length, [], None, Some, Option, ap, sym, refl, ◌∙◌, subst, arith, rules}
use Rattle.mux_history.specs.Bounds.{Bounds}
use Rattle.std.specs.Prelude.{reverse}
use Rattle.mux_history.specs.Log.{Log}
use Rattle.mux_history.specs.Readings.{written}
use Rattle.mux_model.specs.Steps.{RollCall, Recorded, records, rolling}
use Rattle.translate_book.specs.declared.refusal.RollRefusal.{RollRefusal}
use Rattle.client_session.specs.Past.{figures_of, add}
use Rattle.client_session.specs.State.{State, figures_in}
use Rattle.client_session.specs.Inside.{state_of}
use Rattle.client_session.specs.Belonging.{Belongs}
use Rattle.client_session.specs.Decide.{roll_refusal, why_roll}
use Rattle.client_session.proofs.Deciding.{figures_same}
use Rattle.client_session.proofs.Rolling.{kept_rolled, roll_fits, roll_open}
use Rattle.client_session.proofs.Telling.{roll_told, decided}
use Rattle.client_session.proofs.session.ClientSession.roll.Goals as goal

pub returns-in-Some-clause-step : goal.returns-in-Some-clause-step
returns-in-Some-clause-step c = λ p b.
    let cause : roll_refusal (figures_of p) ≡ Some c.in-Some.refusal =
    ap roll_refusal (sym (figures_same c.args.self.now p b)) ∙ sym c.roll_refusal.ensures.first ∙ c.in-Some.is in
    (p, ((roll_told p ∙ ap (λ (o : Option RollRefusal). decided why_roll o (Recorded (rolling (records p.steps)) [])) cause, refl), refl), b)

pub write-requires-clause-records : goal.write-requires-clause-records
write-requires-clause-records c =
    let mine : roll_refusal (figures_in c.args.self.now) ≡ None = sym c.roll_refusal.ensures.first ∙ c.in_default.is in
    let inner = rw (← c.self.view_is) at mine in
    let room = rw (← c.self.view_is) at c.roll_refusal.ensures.room in
    let fits = roll_fits (figures_in (state_of c.self.inside)) inner in
    let one : ◌≡◌ {A = ℕ} (cond c.self.inside.closed 0 1) 1 = ap (λ (z : Bool). cond z 0 1) (roll_open (figures_in (state_of c.self.inside)) inner) in
    let empty : length c.replace-rolled.new.dest.records ≡ 0 = ap (λ (h : Log). length h.records) c.replace-rolled.ensures.after ∙ ap length c.requires.empty in
    omega (arith, fits, room, one, empty)

pub returns-clause-step : goal.returns-clause-step
returns-clause-step c = λ p b.
    let mine : roll_refusal (figures_in c.args.self.now) ≡ None = sym c.roll_refusal.ensures.first ∙ c.in_default.is in
    let none : roll_refusal (figures_of p) ≡ None = ap roll_refusal (sym (figures_same c.args.self.now p b)) ∙ mine in
    let e = rolling (records p.steps) in
    let was : c.self.inside.history.records ≡ reverse (written (records p.steps)) = ap (λ (s : State). s.records) c.self.view_is ∙ b.records in
    let room : c.self.inside.history.room ≡ p.session.limits.history =
    c.self.invariant.history_room ∙ ap (λ (s : State). s.limits.history) c.self.view_is ∙ ap (λ (l : Bounds). l.history) b.limits in
    let rolled : c.self.inside.history ≡ record { records = reverse (written (records p.steps)); room = p.session.limits.history } =
    λ i. record { records = was i; room = room i } in
    let kept = kept_rolled _ p (subst (λ (s : State). Belongs s p) (sym c.self.view_is) b) (rw (← c.self.view_is) at mine) in (
      add p RollCall e,
      (
        (e, (roll_told p ∙ ap (λ (o : Option RollRefusal). decided why_roll o (Recorded e [])) none, refl)),
        c.replace-rolled.ensures.value ∙ rolled,
      ),
      subst (λ (s : State). Belongs s (add p RollCall e)) (search rules) kept,
    )
