-- What the frames of a session gave.
use Rattle.std.proofs.Common.{◌≡◌, ℕ, zero, suc, ◌==◌, Bool, true, false, List, [], ◌∷◌, ◌++◌, length, Option, Some, None, Ok, slice_get, refl, sym, ap, ◌∙◌, subst, inl, if◌then◌else◌}
use Rattle.std.proofs.lemmas.Bool.{eqb-true}
use Rattle.mux_frame.specs.Views.{FrameView}
use Rattle.mux_history.specs.declared.session.SessionId.{SessionId}
use Rattle.mux_history.specs.declared.session.SessionId.TheVariants.{Client, Server}
use Rattle.mux_model.specs.Steps.{Held, FrameCall}
use Rattle.client_session.specs.Past as ups
use Rattle.client_session.specs.Steps as up_steps
use Rattle.client_session.specs.declared.answers.UpStep.{UpStep}
use Rattle.client_session.specs.declared.answers.UpStep.TheVariants as up
use Rattle.server_session.specs.Past as downs
use Rattle.server_session.specs.Steps as down_steps
use Rattle.server_session.specs.declared.answers.DownStep.{DownStep}
use Rattle.server_session.specs.declared.answers.DownStep.TheVariants as down
use Rattle.kept_session.specs.Reached.{Kept}
use Rattle.kept_session.specs.ReachedDown.{KeptDown}
use Rattle.hub_base.specs.Errands.{errand_at, of_down, of_up}
use Rattle.hub_base.specs.declared.errands.Errand.{Errand}
use Rattle.hub_close.specs.declared.receipt.Stub.{Stub}
use Rattle.hub_steps.specs.Batches.{StepsDown, StepsUp}
use Rattle.hub_steps.specs.Down.{StartsDown}
use Rattle.hub_steps.specs.Up.{Starts}
use Rattle.hub_log.specs.declared.terms.Terms.{Terms}
use Rattle.hub_log.specs.Moves.{Did, gives_of}
use Rattle.hub_log.specs.Views.{View, AddedAll}
use Rattle.hub_log.specs.Turns.{Turn, moves_by}
use Rattle.hub_places.specs.Holding.{GoesTo, Holds, alone, held_in, held_of}
use Rattle.hub_places.specs.Tied.{MadeDown, MadeUp}
use Rattle.hub_places.proofs.Claiming.{fewer, gave, put_at}
use Rattle.hub_places.proofs.Running.{added_more, moves_more, unequal}
use Rattle.hub_places.proofs.Tying.{made_down, made_up}

-- one more at the end
the_end : (es : List Errand) (e : Errand) → errand_at (es ++ e ∷ []) (length es) ≡ e
the_end [] e = refl
the_end (x ∷ es) e = the_end es e

before_end : (es : List Errand) (e : Errand) (i : ℕ) → (i ≡ length es → ⊥) → errand_at (es ++ e ∷ []) i ≡ errand_at es i
before_end [] e zero never = absurd (never refl)
before_end [] e (suc i) never = refl
before_end (x ∷ es) e zero never = refl
before_end (x ∷ es) e (suc i) never = before_end es e i (λ is. never (ap suc is))

held_more : (es : List Errand) (e : Errand) (i : ℕ) (h : Held) → held_in (es ++ e ∷ []) i ≡ Some h → put_at (length es) (held_of e.value) (held_in es) i ≡ Some h
held_more es e i h is = by_test (i == length es) refl
  where
    by_test : (b : Bool) → (i == length es) ≡ b → put_at (length es) (held_of e.value) (held_in es) i ≡ Some h
    by_test true same =
        ap (λ b. if b then held_of e.value else held_in es i) same
        ∙ (ap (λ (x : Errand). held_of x.value) (sym (the_end es e)) ∙ (ap (held_in (es ++ e ∷ [])) (sym (eqb-true i (length es) same)) ∙ is))
    by_test false other =
        ap (λ b. if b then held_of e.value else held_in es i) other
        ∙ (ap (λ (x : Errand). held_of x.value) (sym (before_end es e i (λ same. unequal i (length es) same other))) ∙ is)

goes_more : (es : List Errand) (e : Errand) → ((i : ℕ) → GoesTo (errand_at es i).to (errand_at es i).value) → GoesTo e.to e.value
    → (i : ℕ) → GoesTo (errand_at (es ++ e ∷ []) i).to (errand_at (es ++ e ∷ []) i).value
goes_more es e all goes i = by_test (i == length es) refl
  where
    by_test : (b : Bool) → (i == length es) ≡ b → GoesTo (errand_at (es ++ e ∷ []) i).to (errand_at (es ++ e ∷ []) i).value
    by_test true same = subst (λ (x : Errand). GoesTo x.to x.value) (sym (ap (errand_at (es ++ e ∷ [])) (eqb-true i (length es) same) ∙ the_end es e)) goes
    by_test false other = subst (λ (x : Errand). GoesTo x.to x.value) (sym (before_end es e i (λ same. unequal i (length es) same other))) (all i)

-- what the turns of a session gave
pub record Gives (t : Terms) (v : View) (id : SessionId) (turns : List Turn) (es : List Errand) : Type 0 where
  pub goes : (i : ℕ) → GoesTo (errand_at es i).to (errand_at es i).value
  pub comes : (w : View) → AddedAll t (moves_by id turns) v w → Holds w (held_in es)

pub nothing_held : (w : View) → Holds w (held_in [])
nothing_held w = record {
  claim = λ i. record { place = 0; which = 0 };
  there = λ i h e. absurd (let no : None ≡ Some h = none i h e in cc);
  apart = λ i j h k x y same. absurd (let no : None ≡ Some h = none i h x in cc);
}
  where
    none : (i : ℕ) (h : Held) → held_in [] i ≡ Some h → None ≡ Some h
    none zero h e = e
    none (suc i) h e = e

-- no value at all
pub no_value : (w : View) → Holds w (λ i. None)
no_value w = fewer (nothing_held w) (λ i h e. absurd (let no : None ≡ Some h = e in cc no))

pub none_alone : (w : View) → Holds w (alone None)
none_alone w = fewer (nothing_held w) (λ i h e. absurd (by_test (i == 0) h e))
  where
    by_test : (b : Bool) (h : Held) → (if b then None else None) ≡ Some h → ⊥
    by_test true h e = (let no : None ≡ Some h = e in cc no)
    by_test false h e = (let no : None ≡ Some h = e in cc no)

pub nowhere : (i : ℕ) → GoesTo (errand_at [] i).to (errand_at [] i).value
nowhere zero = tt
nowhere (suc i) = tt

gives_none : (t : Terms) (v : View) (id : SessionId) → Gives t v id [] []
gives_none t v id = record { goes = nowhere; comes = λ w added. nothing_held w }

gives_more : (t : Terms) (v : View) (id : SessionId) (turns : List Turn) (es : List Errand) (x : Turn) (e : Errand) → x.uses ≡ None
    → ((h : Held) → held_of e.value ≡ Some h → slice_get (gives_of x.deed) 0 ≡ Some h) → GoesTo e.to e.value
    → Gives t v id turns es → Gives t v id (turns ++ x ∷ []) (es ++ e ∷ [])
gives_more t v id turns es x e uses given goes g = record {
  goes = goes_more es e g.goes goes;
  comes = λ w added.
      let s = added_more t (moves_by id turns) (record { session = id; deed = x.deed; uses = x.uses }) v w (subst (λ ms. AddedAll t ms v w) (moves_more id turns x) added) in
      fewer (gave s.2 (g.comes s.0 s.1) (length es) (held_of e.value) uses given).0 (held_more es e);
}

-- a client's frames
down_given : (step : DownStep) (h : Held) → held_of (of_down step).value ≡ Some h → slice_get (down_steps.given_by step) 0 ≡ Some h
down_given down.Nothing h is = absurd (let no : None ≡ Some h = is in cc)
down_given (down.Take ticket) h is = is
down_given (down.Recall recall) h is = is
down_given (down.Closing cause) h is = absurd (let no : None ≡ Some h = is in cc)

down_goes : (step : DownStep) → GoesTo (of_down step).to (of_down step).value
down_goes down.Nothing = tt
down_goes (down.Take ticket) = tt
down_goes (down.Recall recall) = refl
down_goes (down.Closing cause) = tt

pub record FramedDown (t : Terms) (v : View) (n : ℕ) (k : KeptDown) (es : List Errand) : Type 0 where
  pub made : MadeDown t v k
  pub number : made.past.session.number ≡ n
  pub gives : Gives t v (Client made.past.session.number) made.turns es

pub framed_down : {t : Terms} {v : View} {n now : ℕ} {k : KeptDown} → (begun : MadeDown t v k) → begun.past.session.number ≡ n → begun.turns ≡ [] → (u : Option KeptDown) (fs : List FrameView) (rs : List Stub) (es : List Errand)
    → StepsDown now (Some k) fs rs es u → (l : KeptDown) × (u ≡ Some l) × FramedDown t v n l es
framed_down {t = t} {v = v} {k = k} begun number none u fs rs es StepsDown.none =
    (k, refl, record { made = begun; number = number; gives = subst (λ turns. Gives t v (Client begun.past.session.number) turns []) (sym none) (gives_none t v (Client begun.past.session.number)) })
framed_down {t = t} {v = v} {n = n} {now = now} begun number none _ _ _ _ (StepsDown.next {fs = fs} {rs = rs} {es = es} {t = s} {u = u} f r step starts before) =
    let b = framed_down begun number none s fs rs es before in
    by_end u (subst (λ o. StartsDown o u f now (Ok (r, step))) b.1 starts) b.2
  where
    by_end : {l : KeptDown} (u : Option KeptDown) → StartsDown (Some l) u f now (Ok (r, step)) → FramedDown t v n l es → (m : KeptDown) × (u ≡ Some m) × FramedDown t v n m (es ++ of_down step ∷ [])
    by_end None starts run = absurd starts.0
    by_end (Some m) starts run =
        let id = Client run.made.past.session.number in
        let one = made_down (λ p q. down_steps.FrameStep p f now (Ok step) q) (down_steps.given_by step) starts.0.1 run.made None tt
        (λ p q s. (Did (FrameCall f.frame now) s.0 (down_steps.given_by step), (s.4.0, s.4.1), inl tt, refl)) in (
          m,
          refl,
          record {
            made = one.1;
            number = ap (λ (p : downs.Past). p.session.number) one.3 ∙ run.number;
            gives = subst (λ (p : downs.Past). Gives t v (Client p.session.number) one.1.turns (es ++ of_down step ∷ [])) (sym one.3)
                (subst (λ turns. Gives t v id turns (es ++ of_down step ∷ [])) (sym one.2)
                (gives_more t v id run.made.turns es (record { deed = one.0; uses = None }) (of_down step) refl
                (λ h is. ap (λ gs. slice_get gs 0) one.4 ∙ down_given step h is) (down_goes step) run.gives));
          },
        )

-- a server's
up_given : (step : UpStep) (h : Held) → held_of (of_up step).value ≡ Some h → slice_get (up_steps.given_by step) 0 ≡ Some h
up_given up.Nothing h is = absurd (let no : None ≡ Some h = is in cc)
up_given up.Dropped h is = absurd (let no : None ≡ Some h = is in cc)
up_given (up.Settled settled) h is = is
up_given (up.Closing cause) h is = absurd (let no : None ≡ Some h = is in cc)

up_goes : (step : UpStep) → GoesTo (of_up step).to (of_up step).value
up_goes up.Nothing = tt
up_goes up.Dropped = tt
up_goes (up.Settled settled) = refl
up_goes (up.Closing cause) = tt

pub record FramedUp (t : Terms) (v : View) (n : ℕ) (k : Kept) (es : List Errand) : Type 0 where
  pub made : MadeUp t v k
  pub number : made.past.session.number ≡ n
  pub gives : Gives t v (Server made.past.session.number) made.turns es

pub framed_up : {t : Terms} {v : View} {n now : ℕ} {k : Kept} → (begun : MadeUp t v k) → begun.past.session.number ≡ n → begun.turns ≡ [] → (u : Option Kept) (fs : List FrameView) (rs : List Stub) (es : List Errand)
    → StepsUp now (Some k) fs rs es u → (l : Kept) × (u ≡ Some l) × FramedUp t v n l es
framed_up {t = t} {v = v} {k = k} begun number none u fs rs es StepsUp.none =
    (k, refl, record { made = begun; number = number; gives = subst (λ turns. Gives t v (Server begun.past.session.number) turns []) (sym none) (gives_none t v (Server begun.past.session.number)) })
framed_up {t = t} {v = v} {n = n} {now = now} begun number none _ _ _ _ (StepsUp.next {fs = fs} {rs = rs} {es = es} {t = s} {u = u} f r step starts before) =
    let b = framed_up begun number none s fs rs es before in
    by_end u (subst (λ o. Starts o u f now (Ok (r, step))) b.1 starts) b.2
  where
    by_end : {l : Kept} (u : Option Kept) → Starts (Some l) u f now (Ok (r, step)) → FramedUp t v n l es → (m : Kept) × (u ≡ Some m) × FramedUp t v n m (es ++ of_up step ∷ [])
    by_end None starts run = absurd starts.0
    by_end (Some m) starts run =
        let id = Server run.made.past.session.number in
        let one = made_up (λ p q. up_steps.FrameStep p f now (Ok step) q) (up_steps.given_by step) starts.0.2 run.made None tt
        (λ p q s. (Did (FrameCall f.frame now) s.0 (up_steps.given_by step), (0, tt, s.5.0, s.5.1), inl tt, refl)) in (
          m,
          refl,
          record {
            made = one.1;
            number = ap (λ (p : ups.Past). p.session.number) one.3 ∙ run.number;
            gives = subst (λ (p : ups.Past). Gives t v (Server p.session.number) one.1.turns (es ++ of_up step ∷ [])) (sym one.3)
                (subst (λ turns. Gives t v id turns (es ++ of_up step ∷ [])) (sym one.2)
                (gives_more t v id run.made.turns es (record { deed = one.0; uses = None }) (of_up step) refl
                (λ h is. ap (λ gs. slice_get gs 0) one.4 ∙ up_given step h is) (up_goes step) run.gives));
          },
        )
