-- What is done under the lock of a session towards a client may be added to the log.
use Rattle.std.proofs.Common.{◌≡◌, ◌⊎◌, inl, inr, ℕ, ◌+◌, ◌<◌, ◌≤◌, Bool, true, false, true≢false, List, [], ◌∷◌, ◌++◌, length, Option, Some, None, Result, Ok, Err, refl, sym, ap, ◌∙◌, subst, arith}
use Rattle.std.specs.Prelude.{is_some, IfErr, MatchBool, OnOk, nat_lt, slice_get}
use Rattle.std.specs.Option.{ForSome}
use Rattle.std.proofs.lemmas.Bool.Decides.{nat_tests}
use Rattle.mux_frame.specs.Spelling.{MuxFrame}
use Rattle.mux_frame.specs.Views.{FrameView}
use Rattle.mux_history.specs.Log.{Log}
use Rattle.mux_history.specs.declared.session.SessionId.{SessionId}
use Rattle.mux_history.specs.declared.session.SessionId.TheVariants.{Client}
use Rattle.mux_model.specs.Steps.{LostOf, DrainCall, LoseCall, LoseNextCall, SealCall, RollCall, FailCall, Outcome, Refused, Unrecorded, Recorded}
use Rattle.mux_model.specs.Down.{down}
use Rattle.translate_book.specs.declared.recall.Recall.{Recall}
use Rattle.translate_book.specs.declared.sent.Lost.{Lost}
use Rattle.mux_legal.specs.Sessions.{IsReachedDown}
use Rattle.server_session.specs.Belonging.{Belongs}
use Rattle.server_session.specs.Past.{Past, begun}
use Rattle.server_session.specs.Inside.{frames_of}
use Rattle.server_session.specs.Steps.{next as next_of}
use Rattle.server_session.specs.Steps.{DrainStep, FailStep, LoseNextStep, LoseStep, TakeOutStep, TakeOutsStep, recall_of}
use Rattle.server_session.specs.declared.answers.Answer.{Answer}
use Rattle.server_session.specs.declared.answers.DrainRefusal.{DrainRefusal}
use Rattle.kept_session.specs.ReachedDown as reached
use Rattle.kept_session.specs.ReachedDown.{KeptDown}
use Rattle.hub_base.specs.declared.errands.Errand.{Errand}
use Rattle.kept_session.specs.declared.ending.EpochEnd.{EpochEnd}
use Rattle.kept_session.specs.declared.ending.EpochEnd.TheVariants as how
use Rattle.kept_session.specs.declared.ending.EpochRefused.{EpochRefused}
use Rattle.hub_close.specs.declared.receipt.Stub.{Stub}
use Rattle.hub_base.specs.Batching.{Batched, handed_back}
use Rattle.hub_base.specs.declared.fault.HubFault.{HubFault}
use Rattle.hub_close.specs.Receiving.{Receiving}
use Rattle.hub_steps.specs.Batches.{AnswersDown, StepsDown, TakesAllDown}
use Rattle.hub_steps.specs.Down.{EndsDown, GivesNoneDown, MakesDown, StartsDown, TakesOutDown}
use Rattle.hub_steps.specs.Giving.{TakesEndedDown}
use Rattle.hub_steps.specs.Leaving.{LeavesDown}
use Rattle.hub_log.specs.declared.terms.Terms.{Terms}
use Rattle.hub_log.specs.Moves.{slot_of, Deed, Did, TookOut}
use Rattle.hub_log.specs.Bag.{IsGiven}
use Rattle.hub_log.specs.Rule.{values_of}
use Rattle.hub_log.specs.Views.{View, AddedAll, Owns, May}
use Rattle.hub_log.specs.Turns.{Turn, moves_by}
use Rattle.hub_places.specs.MovesDown.{LeadsDown}
use Rattle.hub_places.specs.Holding.{HasClaims, Holds, IsGone, alone, recall_if}
use Rattle.hub_places.specs.Sitting.{SitsDown, bare_of}
use Rattle.hub_places.specs.Tied.{TiedDown, moves_down}
use Rattle.hub_places.proofs.Claiming.{carry_values, gave, hold_values}
use Rattle.hub_places.proofs.Frames.{framed_down, no_value, none_alone, nothing_held, nowhere}
use Rattle.hub_places.proofs.Running.{clients, run_begun}
use Rattle.hub_places.proofs.RunsDown.{answered_none, answered_run}
use Rattle.hub_places.proofs.Sitting.{down_sits, may_stay, opens_down, sat_down}
use Rattle.hub_places.proofs.Turning.{takes_out}
use Rattle.hub_places.proofs.Tying.{IsPlainDown, adds_down, begun_down, made_at_down, made_down, plain_down}

pub bare_down : {t : Terms} {n next : ℕ} {s : Option KeptDown} {w : View} → SitsDown t n next s w → SitsDown t n next s (bare_of w)
bare_down {w = w} sits = down_sits (bare_of w) refl refl (λ id o. refl) sits

module _ {t : Terms} {v : View} {n next : ℕ} where
  none_sits : {s : Option KeptDown} {k : Option KeptDown} → SitsDown t n next s v → k ≡ None → SitsDown t n next k v
  none_sits sits none = record { tied = λ x is. absurd (let no : None ≡ Some x = sym none ∙ is in cc no); fresh = sits.fresh }

  -- values that go to this client
  pub answers_may : {client : ℕ} {xs : List Errand} (s u : Option KeptDown) (ys : List Errand) → SitsDown t n next s v → n ≡ client → HasClaims v xs → AnswersDown client s xs u ys
      → May t v (λ w. SitsDown t n next u (bare_of w) × HasClaims (values_of w) ys)
  answers_may {client = client} {xs = xs} None u ys sits is carries made =
      let r = answered_none u ys carries.holds carries.goes made in
      may_stay t v _ (bare_down (none_sits sits r.0), carry_values (record { holds = r.1; goes = r.2 }))
  answers_may {client = client} {xs = xs} (Some k) u ys sits is carries made =
      let tied = sits.tied k refl in
      let r = answered_run {H = carries.holds} (record { made = begun_down tied.0; number = tied.1 ∙ is; runs = run_begun clients carries.goes }) u ys made in
      let run = r.2 in (
        moves_down run.made,
        adds_down run.made,
        λ w added. (
          bare_down (subst (λ o. SitsDown t n next o w) (sym r.1) (sat_down tied.2 sits.fresh run.made (run.number ∙ sym is) w added)),
          carry_values {w = w} (record {
            holds = (run.runs.comes w (subst (λ m. AddedAll t (moves_by (Client m) run.made.turns) v w) run.number added)).0;
            goes = run.runs.goes;
          }),
        ),
      )

  -- its frames
  pub frames_may : {now : ℕ} (s u : Option KeptDown) (fs : List FrameView) (rs : List Stub) (es : List Errand) → SitsDown t n next s v → StepsDown now s fs rs es u
      → May t v (λ w. SitsDown t n next u (bare_of w) × HasClaims (values_of w) es)
  frames_may {now = now} None u fs rs es sits made = let r = none_framed now u fs rs es made in may_stay t v _ (bare_down (none_sits sits r.0), subst (HasClaims (values_of v)) (sym r.1) (record { holds = nothing_held (values_of v); goes = nowhere }))
    where
      none_framed : (now : ℕ) (u : Option KeptDown) (fs : List FrameView) (rs : List Stub) (es : List Errand) → StepsDown now None fs rs es u → (u ≡ None) × (es ≡ [])
      none_framed now u fs rs es StepsDown.none = (refl, refl)
      none_framed now _ _ _ _ (StepsDown.next {fs = fs} {rs = rs} {es = es} {t = x} {u = y} f r step starts before) =
          let b = none_framed now x fs rs es before in
          absurd (subst (λ o. StartsDown o y f now (Ok (r, step))) b.0 starts)
  frames_may (Some k) u fs rs es sits made =
      let tied = sits.tied k refl in
      let r = framed_down (begun_down tied.0) tied.1 refl u fs rs es made in
      let run = r.2 in (
        moves_down run.made,
        adds_down run.made,
        λ w added. (
          bare_down (subst (λ o. SitsDown t n next o w) (sym r.1) (sat_down tied.2 sits.fresh run.made run.number w added)),
          carry_values {w = w} (record { holds = run.gives.comes w added; goes = run.gives.goes }),
        ),
      )

  -- a step that uses no value
  leads_may : (k l : KeptDown) (R : Past → Past → Type 0) → SitsDown t n next (Some k) v → IsPlainDown R → reached.LeadsDown k l R → May t v (λ w. SitsDown t n next (Some l) (bare_of w))
  leads_may k l R sits plain leads =
      let tied = sits.tied k refl in
      let r = plain_down R plain leads (begun_down tied.0) in
      (moves_down r.0, adds_down r.0, λ w added. bare_down (sat_down tied.2 sits.fresh r.0 (ap (λ (p : Past). p.session.number) r.1 ∙ tied.1) w added))

  pub plain_may : (s u : Option KeptDown) (R : Past → Past → Type 0) → SitsDown t n next s v → IsPlainDown R → MakesDown s u R → May t v (λ w. SitsDown t n next u (bare_of w))
  plain_may None u R sits plain made = may_stay t v _ (bare_down (none_sits sits made))
  plain_may (Some k) None R sits plain made = absurd made
  plain_may (Some k) (Some l) R sits plain made = leads_may k l R sits plain made.1

  pub drain_may : (s u : Option KeptDown) (result : Result (Unit {0}) DrainRefusal) → SitsDown t n next s v → MakesDown s u (λ p q. DrainStep p result q) → May t v (λ w. SitsDown t n next u (bare_of w))
  drain_may s u (Ok done) sits made = plain_may s u _ sits (λ p q r. inr (Did DrainCall r.0 [], (r.4.0, r.4.1), λ id x. tt)) made
  drain_may s u (Err why) sits made = plain_may s u _ sits (λ p q r. inl r.1) made

  pub lose_may : (s u : Option KeptDown) (now : ℕ) → SitsDown t n next s v → MakesDown s u (λ p q. LoseStep p now q) → May t v (λ w. SitsDown t n next u (bare_of w))
  lose_may s u now sits made = plain_may s u _ sits (λ p q r. by_outcome p q _ refl r.1) made
    where
      by_outcome : (p q : Past) (o : Outcome) → down p.session p.steps (length p.out) (LoseCall now) ≡ o → q ≡ next_of p (LoseCall now) o
          → (q ≡ p) ⊎ ((deed : Deed) × LeadsDown p deed q × ((id : SessionId) (x : View) → IsGiven id deed None x.seen))
      by_outcome p q (Recorded e gives) is to = inr (Did (LoseCall now) e gives, (is, to), λ id x. tt)
      by_outcome p q (Refused why) is to = inl to
      by_outcome p q Unrecorded is to = inl to

  -- the end of an epoch
  pub end_may : (s u : Option KeptDown) (way : EpochEnd) (fresh : Log) (result : Result (Unit {0}) EpochRefused) → SitsDown t n next s v → EndsDown s u way fresh result → May t v (λ w. SitsDown t n next u (bare_of w))
  end_may None u way fresh (Ok done) sits made = absurd made
  end_may (Some k) None way fresh (Ok done) sits made = absurd made
  end_may (Some k) (Some l) how.Seal fresh (Ok done) sits made = leads_may k l _ sits (λ p q r. inr (Did SealCall r.0.0 [], (r.0.4.0, r.0.4.1), λ id x. tt)) made.1.1
  end_may (Some k) (Some l) how.Roll fresh (Ok done) sits made = leads_may k l _ sits (λ p q r. inr (Did RollCall r.0.0 [], (r.0.4.0, r.0.4.1), λ id x. tt)) made.1.1
  end_may None u way fresh (Err e) sits made = may_stay t v _ (bare_down (subst (λ o. SitsDown t n next o v) (sym made.0) sits))
  end_may (Some k) u way fresh (Err e) sits made = may_stay t v _ (bare_down (subst (λ o. SitsDown t n next o v) (sym made.0) sits))

  -- the recall of one dispatch
  pub lose_next_may : (s u : Option KeptDown) (given : Option Recall) → SitsDown t n next s v → MakesDown s u (λ p q. LoseNextStep p given q) → (s ≡ None → given ≡ None)
      → May t v (λ w. SitsDown t n next u (bare_of w) × Holds (values_of w) (alone (recall_if given)))
  lose_next_may None u given sits made none = may_stay t v _ (bare_down (none_sits sits made), subst (λ g. Holds (values_of v) (alone (recall_if g))) (sym (none refl)) (none_alone (values_of v)))
  lose_next_may (Some k) None given sits made none = absurd made
  lose_next_may (Some k) (Some l) None sits made none =
      let m = leads_may k l _ sits (λ p q r. inl r.1) made.1 in
      (m.0, m.1, λ w added. (m.2 w added, none_alone (values_of w)))
  lose_next_may (Some k) (Some l) (Some recall) sits made none =
      let tied = sits.tied k refl in
      let one = made_down (λ p q. LoseNextStep p (Some recall) q) (recall_of recall ∷ []) made.1 (begun_down tied.0) None tt
      (λ p q r. (Did LoseNextCall r.0 (recall_of recall ∷ []), (r.4.0, r.4.1), inl tt, refl)) in
      let x : Turn = record { deed = one.0; uses = None } in
      let number : one.1.past.session.number ≡ n = ap (λ (p : Past). p.session.number) one.3 ∙ tied.1 in (
        moves_down one.1,
        adds_down one.1,
        λ w added.
            let all = subst (λ xs. AddedAll t (moves_by (Client one.1.past.session.number) xs) v w) one.2 added in (
              bare_down (sat_down tied.2 sits.fresh one.1 number w added),
              subst (λ (y : View). Holds (values_of y) (alone (Some (recall_of recall)))) (sym all.2)
                  (hold_values (gave {f = λ i. None} all.1 (no_value v) 0 (Some (recall_of recall)) refl (λ h e. ap (λ gs. slice_get gs 0) one.4 ∙ e)).0),
            ),
      )

  -- the server of a dispatch is gone
  pub fail_may : (s u : Option KeptDown) (lost : Lost) (result : Result Answer Lost) → SitsDown t n next s v → n ≡ lost.name.client → Holds v (alone (Some (LostOf lost.name))) → MakesDown s u (λ p q. FailStep p lost result q)
      → May t v (λ w. SitsDown t n next u (bare_of w))
  fail_may None u lost result sits is holds made = may_stay t v _ (bare_down (none_sits sits made))
  fail_may (Some k) None lost result sits is holds made = absurd made
  fail_may (Some k) (Some l) lost (Err back) sits is holds made = leads_may k l _ sits (λ p q r. inl r.0.1) made.1
  fail_may (Some k) (Some l) lost (Ok answer) sits is holds made =
      let tied = sits.tied k refl in
      let there = holds.there 0 (LostOf lost.name) refl in
      let own : tied.0.past.session.number ≡ lost.name.client = tied.1 ∙ is in
      let one = made_down (λ p q. FailStep p lost (Ok answer) q) [] made.1 (begun_down tied.0) (Some (holds.claim 0)) there.0
      (λ p q r. (Did (FailCall lost.name) r.0 [], (r.4.0, r.4.1), inl (LostOf lost.name, there.1, (refl, ap Client own)), refl)) in
      let number : one.1.past.session.number ≡ n = ap (λ (p : Past). p.session.number) one.3 ∙ tied.1 in
      (moves_down one.1, adds_down one.1, λ w added. bare_down (sat_down tied.2 sits.fresh one.1 number w added))

  -- frames go out
  took_may : (k l : KeptDown) (frames : List MuxFrame) → SitsDown t n next (Some k) v → reached.LeadsDown k l (λ p q. LeadsDown p (TookOut frames) q)
      → May t v (λ w. SitsDown t n next (Some l) (bare_of w) × IsGone t (Client n) frames (values_of w))
  took_may k l frames sits leads =
      let tied = sits.tied k refl in
      let g = leads tied.0.past tied.0.led tied.0.belongs in
      let one = made_at_down {l = l} (begun_down tied.0) g.0 g.2 g.3 (TookOut frames) g.1 None tt (inl refl) in
      let number : one.0.past.session.number ≡ n = ap (λ (p : Past). p.session.number) one.2 ∙ tied.1 in (
        moves_down one.0,
        adds_down one.0,
        λ w added.
            let all = subst (λ m. AddedAll t (moves_by (Client m) (record { deed = TookOut frames; uses = None } ∷ [])) v w) number
            (subst (λ xs. AddedAll t (moves_by (Client one.0.past.session.number) xs) v w) one.1 added) in (
              bare_down (sat_down tied.2 sits.fresh one.0 number w added),
              subst (λ y. IsGone t (Client n) frames (values_of y)) (sym all.2) (all.1.before, all.1.seen, all.1.legal),
            ),
      )

  pub take_outs_may : (k : KeptDown) (u : Option KeptDown) (had : List FrameView) (room : ℕ) (has : List FrameView) (came : ℕ) → SitsDown t n next (Some k) v → TakesOutDown (Some k) u had room has came
      → May t v (λ w. SitsDown t n next u (bare_of w) × (0 < came → IsGone t (Client n) (frames_of has) (values_of w)))
  take_outs_may k u had room has came sits made = by_count (nat_lt 0 came) refl made
    where
      some_came : (u : Option KeptDown) → MakesDown (Some k) u (λ p q. TakeOutsStep p (frames_of has) q)
          → May t v (λ w. SitsDown t n next u (bare_of w) × (0 < came → IsGone t (Client n) (frames_of has) (values_of w)))
      some_came None made = absurd made
      some_came (Some l) made =
          let m = took_may k l (frames_of has) sits (λ p led belongs. let g = made.1 p led belongs in (g.0, (takes_out p (frames_of has) g.1.0, g.1.1), g.2, g.3, g.4)) in
          (m.0, m.1, λ w added. ((m.2 w added).0, λ lt. (m.2 w added).1))

      none_came : GivesNoneDown (Some k) u (length had) room → May t v (λ w. SitsDown t n next u (bare_of w))
      none_came (inl same) = may_stay t v _ (bare_down (subst (λ o. SitsDown t n next o v) (sym same.0) sits))
      none_came (inr makes) = plain_may (Some k) u _ sits (λ p q r. inr (TookOut [], (tt, r.1), λ id x. refl)) makes

      none_left : (c : ℕ) → nat_lt 0 c ≡ false → 0 < c → ⊥
      none_left c is lt = grind (arith, nat_tests)

      by_count : (b : Bool) → nat_lt 0 came ≡ b → MatchBool b ((had ≡ []) × (came ≡ length has) × MakesDown (Some k) u (λ p q. TakeOutsStep p (frames_of has) q)) ((has ≡ had) × GivesNoneDown (Some k) u (length had) room)
          → May t v (λ w. SitsDown t n next u (bare_of w) × (0 < came → IsGone t (Client n) (frames_of has) (values_of w)))
      by_count true is made = some_came u made.2
      by_count false is made = (let m = none_came made.1 in (m.0, m.1, λ w added. (m.2 w added, λ lt. absurd (none_left came is lt))))

  -- one frame, if there is one
  pub take_out_may : (s u : Option KeptDown) (frame : Option FrameView) → SitsDown t n next s v → MakesDown s u (λ p q. TakeOutStep p frame q) → (s ≡ None → frame ≡ None)
      → May t v (λ w. SitsDown t n next u (bare_of w) × ForSome frame (λ f. IsGone t (Client n) (f.frame ∷ []) (values_of w)))
  take_out_may None u frame sits made none = may_stay t v _ (bare_down (none_sits sits made), λ f is. absurd (let no : None ≡ Some f = sym (none refl) ∙ is in cc no))
  take_out_may (Some k) None frame sits made none = absurd made
  take_out_may (Some k) (Some l) None sits made none =
      let m = leads_may k l _ sits (λ p q r. inr (TookOut [], (tt, r.1), λ id x. refl)) made.1 in
      (m.0, m.1, λ w added. (m.2 w added, λ f is. absurd (let no : None ≡ Some f = is in cc no)))
  take_out_may (Some k) (Some l) (Some f) sits made none =
      let m = took_may k l (f.frame ∷ []) sits (λ p led belongs. let g = made.1 p led belongs in (g.0, ((sym g.1.0, tt), g.1.1), g.2, g.3, g.4)) in
      (m.0, m.1, λ w added. ((m.2 w added).0, λ x is. subst (λ (y : FrameView). IsGone t (Client n) (y.frame ∷ []) (values_of w)) (let same : f ≡ x = cc is in same) (m.2 w added).1))

  -- the frames of a batch that had nothing in hand
  pub batch_may : (now : ℕ) (had has : Receiving) (old new : Batched) (s u : Option KeptDown) (result : Result (Unit {0}) HubFault) → SitsDown t n next s v → old.errands ≡ []
      → OnOk result (TakesAllDown now s u old new had has)
      → IfErr result (λ e. (f : FrameView) × (handed_back e ≡ Some f) × TakesAllDown now s u old (record new { frames = f ∷ new.frames }) had has)
      → May t v (λ w. SitsDown t n next u (bare_of w) × HasClaims (values_of w) new.errands)
  batch_may now had has old new s u (Ok done) sits none ok err =
      subst (λ xs. May t v (λ w. SitsDown t n next u (bare_of w) × HasClaims (values_of w) xs)) (sym (ok.5 ∙ ap (λ es. es ++ ok.2) none)) (frames_may s u ok.0 ok.1 ok.2 sits ok.7)
  batch_may now had has old new s u (Err e) sits none ok err =
      subst (λ xs. May t v (λ w. SitsDown t n next u (bare_of w) × HasClaims (values_of w) xs)) (sym (err.2.5 ∙ ap (λ es. es ++ err.2.2) none)) (frames_may s u err.2.0 err.2.1 err.2.2 sits err.2.7)

  -- a session begins
  pub open_may : {m : ℕ} (k : KeptDown) → SitsDown t m next None v → next ≤ n → Owns t v (Client n)
      → Belongs k.state (begun (record { limits = t.limits; boot = t.boot; number = n })) → May t v (λ w. SitsDown t n (n + 1) (Some k) (bare_of w))
  open_may k sits least owns belongs =
      let from : SitsDown t n n None v = record { tied = λ x is. absurd (let no : None ≡ Some x = is in cc no); fresh = λ j past o. sits.fresh j (omega (arith, least, past)) o } in
      let m = opens_down t n k v from owns belongs IsReachedDown.begins in
      (m.0, m.1, λ w added. bare_down (m.2 w added))

  -- the same, by the number that the session was called by
  pub take_outs_at : (id : ℕ) (s u : Option KeptDown) (had : List FrameView) (room : ℕ) (has : List FrameView) (came : ℕ) → n ≡ id → SitsDown t n next s v → is_some s ≡ true → TakesOutDown s u had room has came
      → May t v (λ w. SitsDown t n next u (bare_of w) × (0 < came → IsGone t (Client id) (frames_of has) (values_of w)))
  take_outs_at id None u had room has came is sits some made = absurd (true≢false (sym some))
  take_outs_at id (Some k) u had room has came is sits some made =
      subst (λ i. May t v (λ w. SitsDown t n next u (bare_of w) × (0 < came → IsGone t (Client i) (frames_of has) (values_of w)))) is (take_outs_may k u had room has came sits made)

  pub take_out_at : (id : ℕ) (s u : Option KeptDown) (frame : Option FrameView) → n ≡ id → SitsDown t n next s v → MakesDown s u (λ p q. TakeOutStep p frame q) → (s ≡ None → frame ≡ None)
      → May t v (λ w. SitsDown t n next u (bare_of w) × ForSome frame (λ f. IsGone t (Client id) (f.frame ∷ []) (values_of w)))
  take_out_at id s u frame is sits made none =
      subst (λ i. May t v (λ w. SitsDown t n next u (bare_of w) × ForSome frame (λ f. IsGone t (Client i) (f.frame ∷ []) (values_of w)))) is (take_out_may s u frame sits made none)

  pub open_at : {m : ℕ} (s : Option KeptDown) (home : Option ℕ) (at later : ℕ) (k : KeptDown) → SitsDown t m next s v → is_some s ≡ false → home ≡ Some at → ForSome home (λ h. (v.low ≡ h) × (v.high ≡ h + 1))
      → slot_of t (Client n) ≡ at → next ≤ n → later ≡ n + 1 → Belongs k.state (begun (record { limits = t.limits; boot = t.boot; number = n }))
      → May t v (λ w. SitsDown t n later (Some k) (bare_of w))
  open_at (Some j) home at later k sits none here bounds slot least is belongs = absurd (true≢false none)
  open_at None home at later k sits none here bounds slot least is belongs =
      let b = bounds at here in
      subst (λ x. May t v (λ w. SitsDown t n x (Some k) (bare_of w))) (sym is) (open_may k sits least (omega (arith, b.0, slot), omega (arith, b.1, slot)) belongs)

-- a session leaves its place, or gives histories up
pub left_down : {t : Terms} {n next : ℕ} {v : View} (s u : Option KeptDown) (result : Option KeptDown) → LeavesDown s u result → SitsDown t n next s v → SitsDown t n next u v
left_down {t = t} {n = n} {next = next} {v = v} s u (Some k) left sits = record { tied = λ x is. absurd (let no : None ≡ Some x = sym left.1 ∙ is in cc no); fresh = sits.fresh }
left_down {t = t} {n = n} {next = next} {v = v} s u None left sits = subst (λ o. SitsDown t n next o v) (sym left.0) sits

pub given_down : {t : Terms} {n next : ℕ} {v : View} (s u : Option KeptDown) (had : List Log) (room : ℕ) (has : List Log) (first : Option ℕ) → TakesEndedDown s u had room has first → SitsDown t n next s v → SitsDown t n next u v
given_down {t = t} {n = n} {next = next} {v = v} s u had room has None given sits = subst (λ o. SitsDown t n next o v) (sym given.0) sits
given_down None u had room has (Some first) given sits = absurd given.1
given_down {t = t} {n = n} {next = next} {v = v} (Some k) u had room has (Some first) given sits =
    let same = sits.tied k refl in
    let tied = same.0 in
    subst (λ o. SitsDown t n next o v) (sym given.1.0) (record {
      tied = λ x is. subst (λ y. (s : TiedDown t y v) × (s.past.session.number ≡ n) × (n < next)) (let is_it : record k { ended = [] } ≡ x = cc is in is_it)
          (record { past = tied.past; led = tied.led; belongs = tied.belongs; limits = tied.limits; knows = tied.knows }, same.1, same.2);
      fresh = sits.fresh;
    })
