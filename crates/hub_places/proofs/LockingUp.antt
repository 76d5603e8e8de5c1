-- What is done under the lock of a session towards a server may be added to the log.
use Rattle.std.proofs.Common.{◌≡◌, ◌⊎◌, inl, inr, ℕ, ◌+◌, ◌<◌, ◌≤◌, ◌-◌, ◌==◌, Bool, true, false, true≢false, List, [], ◌∷◌, ◌++◌, length, Option, Some, None, Result, Ok, Err, refl, sym, ap, ◌∙◌, subst, arith, if◌then◌else◌}
use Rattle.std.specs.Prelude.{is_some, IfErr, MatchBool, OnOk, nat_lt, slice_get}
use Rattle.std.specs.Option.{ForSome}
use Rattle.std.proofs.lemmas.Bool.Decides.{nat_tests}
use Rattle.mux_frame.specs.Spelling.{MuxFrame}
use Rattle.mux_frame.specs.Views.{FrameView}
use Rattle.mux_history.specs.Log.{Log}
use Rattle.mux_history.specs.declared.session.SessionId.{SessionId}
use Rattle.mux_history.specs.declared.session.SessionId.TheVariants.{Server}
use Rattle.mux_model.specs.Steps.{Call, Held, PlacedAt, LostOf, ClockCall, RetireCall, PingCall, LoseCall, LoseNextCall, SealCall, RollCall, Outcome, Refused, Unrecorded, Recorded}
use Rattle.mux_model.specs.World.{NeedsNone}
use Rattle.mux_model.specs.Up.{MayChoose, up}
use Rattle.translate_book.specs.Values.{TicketView}
use Rattle.translate_book.specs.declared.placed.Placed.{Placed}
use Rattle.translate_book.specs.declared.recall.Recall.{Recall}
use Rattle.translate_book.specs.declared.refusal.OfferRefusal.{OfferRefusal}
use Rattle.translate_book.specs.declared.refusal.OfferRefusal.TheVariants.{Closed}
use Rattle.translate_book.specs.declared.refusal.StepRefusal.{StepRefusal}
use Rattle.translate_book.specs.declared.sent.Lost.{Lost}
use Rattle.mux_legal.specs.Sessions.{IsReachedUp}
use Rattle.client_session.specs.Belonging.{Belongs}
use Rattle.client_session.specs.Past.{Past, begun}
use Rattle.client_session.specs.Steps.{next as next_of}
use Rattle.client_session.specs.Steps.{LoseNextStep, LoseStep, NoteStep, OfferStep, PingStep, RecallStep, TakeOutStep, TakeOutsStep}
use Rattle.client_session.specs.declared.answers.PingRefusal.{PingRefusal}
use Rattle.client_session.specs.declared.answers.Recalled.{Recalled}
use Rattle.client_session.specs.declared.answers.Recalled.TheVariants as recalls
use Rattle.server_session.specs.Inside.{frames_of}
use Rattle.server_session.specs.Steps.{recall_of, ticket_of}
use Rattle.kept_session.specs.Reached as reached
use Rattle.kept_session.specs.Reached.{Kept}
use Rattle.hub_base.specs.declared.errands.Errand.{Errand}
use Rattle.kept_session.specs.declared.ending.EpochEnd.{EpochEnd}
use Rattle.kept_session.specs.declared.ending.EpochEnd.TheVariants as how
use Rattle.kept_session.specs.declared.ending.EpochRefused.{EpochRefused}
use Rattle.hub_close.specs.declared.receipt.Stub.{Stub}
use Rattle.hub_base.specs.Batching.{Batched, handed_back}
use Rattle.hub_base.specs.declared.fault.HubFault.{HubFault}
use Rattle.hub_close.specs.Receiving.{Receiving}
use Rattle.hub_steps.specs.Batches.{ServesUp, StepsUp, TakesAllUp}
use Rattle.hub_steps.specs.Up.{Ends, GivesNone, Makes, Starts, TakesOut}
use Rattle.hub_steps.specs.Giving.{TakesEnded}
use Rattle.hub_steps.specs.Leaving.{Leaves}
use Rattle.hub_log.specs.declared.terms.Terms.{Terms}
use Rattle.hub_log.specs.Moves.{slot_of, Deed, Did, TookOut}
use Rattle.hub_log.specs.Bag.{IsGiven}
use Rattle.hub_log.specs.Rule.{values_of}
use Rattle.hub_log.specs.Views.{View, AddedAll, Owns, May}
use Rattle.hub_log.specs.Turns.{Turn, moves_by}
use Rattle.hub_places.specs.MovesUp.{LeadsUp}
use Rattle.hub_places.specs.Holding.{HasClaims, Holds, IsGone, alone, beside, held_in, left_by_offer, lost_if}
use Rattle.hub_places.specs.Sitting.{SitsUp, bare_of}
use Rattle.hub_places.specs.Tied.{TiedUp, moves_up}
use Rattle.hub_places.proofs.Claiming.{carry_values, fewer, gave, hold_values, put_at, used}
use Rattle.hub_places.proofs.Frames.{framed_up, no_value, none_alone, nothing_held, nowhere}
use Rattle.hub_places.proofs.Running.{servers, run_begun}
use Rattle.hub_places.proofs.RunsUp.{offer_uses, recall_uses, served_none, served_run}
use Rattle.hub_places.proofs.Sitting.{up_sits, may_stay, opens_up, sat_up}
use Rattle.hub_places.proofs.Turning.{takes_all}
use Rattle.hub_places.proofs.Tying.{IsPlainUp, adds_up, begun_up, made_at_up, made_up, plain_up, stayed_up}

pub bare_up : {t : Terms} {n next : ℕ} {s : Option Kept} {w : View} → SitsUp t n next s w → SitsUp t n next s (bare_of w)
bare_up {w = w} sits = up_sits (bare_of w) refl refl (λ id o. refl) sits

-- one value beside those of a batch is another
beside_more : (o p : Option Held) (xs : List Errand) (i : ℕ) (h : Held) → beside o xs i ≡ Some h → put_at 0 o (beside p xs) i ≡ Some h
beside_more o p xs i h is = by_test (i == 0) is
  where
    by_test : (b : Bool) → (if b then o else held_in xs (i - 1)) ≡ Some h → (if b then o else (if b then p else held_in xs (i - 1))) ≡ Some h
    by_test true e = e
    by_test false e = e

module _ {t : Terms} {v : View} {n next : ℕ} where
  none_sits : {s : Option Kept} {k : Option Kept} → SitsUp t n next s v → k ≡ None → SitsUp t n next k v
  none_sits sits none = record { tied = λ x is. absurd (let no : None ≡ Some x = sym none ∙ is in cc no); fresh = sits.fresh }

  -- values that go to this server
  pub serves_may : {now server : ℕ} {xs : List Errand} (s u : Option Kept) (ys : List Errand) → SitsUp t n next s v → n ≡ server → HasClaims v xs → ServesUp now server s xs u ys
      → May t v (λ w. SitsUp t n next u (bare_of w) × HasClaims (values_of w) ys)
  serves_may {server = server} {xs = xs} None u ys sits is carries made =
      let r = served_none u ys carries.holds carries.goes made in
      may_stay t v _ (bare_up (none_sits sits r.0), carry_values (record { holds = r.1; goes = r.2 }))
  serves_may {server = server} {xs = xs} (Some k) u ys sits is carries made =
      let tied = sits.tied k refl in
      let r = served_run {H = carries.holds} (record { made = begun_up tied.0; number = tied.1 ∙ is; runs = run_begun servers carries.goes }) u ys made in
      let run = r.2 in (
        moves_up run.made,
        adds_up run.made,
        λ w added. (
          bare_up (subst (λ o. SitsUp t n next o w) (sym r.1) (sat_up tied.2 sits.fresh run.made (run.number ∙ sym is) w added)),
          carry_values {w = w} (record {
            holds = (run.runs.comes w (subst (λ m. AddedAll t (moves_by (Server m) run.made.turns) v w) run.number added)).0;
            goes = run.runs.goes;
          }),
        ),
      )

  -- its frames
  pub frames_may : {now : ℕ} (s u : Option Kept) (fs : List FrameView) (rs : List Stub) (es : List Errand) → SitsUp t n next s v → StepsUp now s fs rs es u
      → May t v (λ w. SitsUp t n next u (bare_of w) × HasClaims (values_of w) es)
  frames_may {now = now} None u fs rs es sits made = let r = none_framed now u fs rs es made in may_stay t v _ (bare_up (none_sits sits r.0), subst (HasClaims (values_of v)) (sym r.1) (record { holds = nothing_held (values_of v); goes = nowhere }))
    where
      none_framed : (now : ℕ) (u : Option Kept) (fs : List FrameView) (rs : List Stub) (es : List Errand) → StepsUp now None fs rs es u → (u ≡ None) × (es ≡ [])
      none_framed now u fs rs es StepsUp.none = (refl, refl)
      none_framed now _ _ _ _ (StepsUp.next {fs = fs} {rs = rs} {es = es} {t = x} {u = y} f r step starts before) =
          let b = none_framed now x fs rs es before in
          absurd (subst (λ o. Starts o y f now (Ok (r, step))) b.0 starts)
  frames_may (Some k) u fs rs es sits made =
      let tied = sits.tied k refl in
      let r = framed_up (begun_up tied.0) tied.1 refl u fs rs es made in
      let run = r.2 in (
        moves_up run.made,
        adds_up run.made,
        λ w added. (
          bare_up (subst (λ o. SitsUp t n next o w) (sym r.1) (sat_up tied.2 sits.fresh run.made run.number w added)),
          carry_values {w = w} (record { holds = run.gives.comes w added; goes = run.gives.goes }),
        ),
      )

  -- a step that uses no value
  leads_may : (k l : Kept) (R : Past → Past → Type 0) → SitsUp t n next (Some k) v → IsPlainUp R → reached.Leads k l R → May t v (λ w. SitsUp t n next (Some l) (bare_of w))
  leads_may k l R sits plain leads =
      let tied = sits.tied k refl in
      let r = plain_up R plain leads (begun_up tied.0) in
      (moves_up r.0, adds_up r.0, λ w added. bare_up (sat_up tied.2 sits.fresh r.0 (ap (λ (p : Past). p.session.number) r.1 ∙ tied.1) w added))

  pub plain_may : (s u : Option Kept) (R : Past → Past → Type 0) → SitsUp t n next s v → IsPlainUp R → Makes s u R → May t v (λ w. SitsUp t n next u (bare_of w))
  plain_may None u R sits plain made = may_stay t v _ (bare_up (none_sits sits made))
  plain_may (Some k) None R sits plain made = absurd made
  plain_may (Some k) (Some l) R sits plain made = leads_may k l R sits plain made.2

  noted_may : (s u : Option Kept) (call : Call) (result : Result (Unit {0}) StepRefusal) → NeedsNone call → ((p : Past) → MayChoose p.session p.steps 0 call) → SitsUp t n next s v → Makes s u (λ p q. NoteStep p call result q)
      → ((id : SessionId) (x : View) → NeedsNone call → (e : _) → IsGiven id (Did call e []) None x.seen) → May t v (λ w. SitsUp t n next u (bare_of w))
  noted_may s u call (Ok done) needs may sits made given = plain_may s u _ sits (λ p q r. inr (Did call r.0 [], (0, may p, r.1.0, r.1.1), λ id x. given id x needs r.0)) made
  noted_may s u call (Err why) needs may sits made given = plain_may s u _ sits (λ p q r. inl r.1) made

  pub clock_may : (s u : Option Kept) (now : ℕ) (result : Result (Unit {0}) StepRefusal) → SitsUp t n next s v → Makes s u (λ p q. NoteStep p (ClockCall now) result q) → May t v (λ w. SitsUp t n next u (bare_of w))
  clock_may s u now result sits made = noted_may s u (ClockCall now) result tt (λ p. tt) sits made (λ id x needs e. tt)

  pub retire_may : (s u : Option Kept) (now : ℕ) (result : Result (Unit {0}) StepRefusal) → SitsUp t n next s v → Makes s u (λ p q. NoteStep p (RetireCall now) result q) → May t v (λ w. SitsUp t n next u (bare_of w))
  retire_may s u now result sits made = noted_may s u (RetireCall now) result tt (λ p. tt) sits made (λ id x needs e. tt)

  pub ping_may : (s u : Option Kept) (now : ℕ) (result : Result (Unit {0}) PingRefusal) → SitsUp t n next s v → Makes s u (λ p q. PingStep p (PingCall now) result q) → May t v (λ w. SitsUp t n next u (bare_of w))
  ping_may s u now (Ok done) sits made = plain_may s u _ sits (λ p q r. inr (Did (PingCall now) r.0 [], (0, tt, r.1.0, r.1.1), λ id x. tt)) made
  ping_may s u now (Err why) sits made = plain_may s u _ sits (λ p q r. inl r.1) made

  pub lose_may : (s u : Option Kept) (now : ℕ) → SitsUp t n next s v → Makes s u (λ p q. LoseStep p now q) → May t v (λ w. SitsUp t n next u (bare_of w))
  lose_may s u now sits made = plain_may s u _ sits (λ p q r. by_outcome p q _ refl r.1) made
    where
      by_outcome : (p q : Past) (o : Outcome) → up p.session p.steps (length p.out) 0 (LoseCall now) ≡ o → q ≡ next_of p (LoseCall now) o
          → (q ≡ p) ⊎ ((deed : Deed) × LeadsUp p deed q × ((id : SessionId) (x : View) → IsGiven id deed None x.seen))
      by_outcome p q (Recorded e gives) is to = inr (Did (LoseCall now) e gives, (0, tt, is, to), λ id x. tt)
      by_outcome p q (Refused why) is to = inl to
      by_outcome p q Unrecorded is to = inl to

  -- the end of an epoch
  pub end_may : (s u : Option Kept) (way : EpochEnd) (fresh : Log) (result : Result (Unit {0}) EpochRefused) → SitsUp t n next s v → Ends s u way fresh result → May t v (λ w. SitsUp t n next u (bare_of w))
  end_may None u way fresh (Ok done) sits made = absurd made
  end_may (Some k) None way fresh (Ok done) sits made = absurd made
  end_may (Some k) (Some l) how.Seal fresh (Ok done) sits made = leads_may k l _ sits (λ p q r. inr (Did SealCall r.0.0 [], (0, tt, r.0.1.0, r.0.1.1), λ id x. tt)) made.1.2
  end_may (Some k) (Some l) how.Roll fresh (Ok done) sits made = leads_may k l _ sits (λ p q r. inr (Did RollCall r.0.0 [], (0, tt, r.0.1.0, r.0.1.1), λ id x. tt)) made.1.2
  end_may None u way fresh (Err e) sits made = may_stay t v _ (bare_up (subst (λ o. SitsUp t n next o v) (sym made.0) sits))
  end_may (Some k) u way fresh (Err e) sits made = may_stay t v _ (bare_up (subst (λ o. SitsUp t n next o v) (sym made.0) sits))

  -- one dispatch
  pub lose_next_may : (s u : Option Kept) (given : Option Lost) → SitsUp t n next s v → Makes s u (λ p q. LoseNextStep p given q) → (s ≡ None → given ≡ None)
      → May t v (λ w. SitsUp t n next u (bare_of w) × Holds (values_of w) (alone (lost_if given)))
  lose_next_may None u given sits made none = may_stay t v _ (bare_up (none_sits sits made), subst (λ g. Holds (values_of v) (alone (lost_if g))) (sym (none refl)) (none_alone (values_of v)))
  lose_next_may (Some k) None given sits made none = absurd made
  lose_next_may (Some k) (Some l) None sits made none =
      let m = leads_may k l _ sits (λ p q r. inl r.1) made.2 in
      (m.0, m.1, λ w added. (m.2 w added, none_alone (values_of w)))
  lose_next_may (Some k) (Some l) (Some lost) sits made none =
      let tied = sits.tied k refl in
      let one = made_up (λ p q. LoseNextStep p (Some lost) q) (LostOf lost.name ∷ []) made.2 (begun_up tied.0) None tt
      (λ p q r. (Did LoseNextCall r.0 (LostOf lost.name ∷ []), (0, tt, r.1.0, r.1.1), inl tt, refl)) in
      let x : Turn = record { deed = one.0; uses = None } in
      let number : one.1.past.session.number ≡ n = ap (λ (p : Past). p.session.number) one.3 ∙ tied.1 in (
        moves_up one.1,
        adds_up one.1,
        λ w added.
            let all = subst (λ xs. AddedAll t (moves_by (Server one.1.past.session.number) xs) v w) one.2 added in (
              bare_up (sat_up tied.2 sits.fresh one.1 number w added),
              subst (λ (y : View). Holds (values_of y) (alone (Some (LostOf lost.name)))) (sym all.2)
                  (hold_values (gave {f = λ i. None} all.1 (no_value v) 0 (Some (LostOf lost.name)) refl (λ h e. ap (λ gs. slice_get gs 0) one.4 ∙ e)).0),
            ),
      )

  -- it is asked to discard a dispatch
  pub recall_may : (now : ℕ) (s u : Option Kept) (r : Recall) (result : Recalled) → SitsUp t n next s v → n ≡ r.server → Holds v (alone (Some (recall_of r))) → Makes s u (λ p q. RecallStep p r now result q)
      → May t v (λ w. SitsUp t n next u (bare_of w))
  recall_may now None u r result sits is holds made = may_stay t v _ (bare_up (none_sits sits made))
  recall_may now (Some k) None r result sits is holds made = absurd made
  recall_may now (Some k) (Some l) r recalls.Stale sits is holds made = leads_may k l _ sits (λ p q x. inl x.1) made.2
  recall_may now (Some k) (Some l) r recalls.Sent sits is holds made =
      let tied = sits.tied k refl in
      let there = holds.there 0 (recall_of r) refl in
      let own : tied.0.past.session.number ≡ r.server = tied.1 ∙ is in
      let one = made_up (λ p q. RecallStep p r now recalls.Sent q) [] made.2 (begun_up tied.0) (Some (holds.claim 0)) there.0
      (λ p q x. let d = recall_uses r now tied.0.past.session.number own p q x in (d.0, d.1, inl (d.2 (holds.claim 0) v.seen there.1), d.3)) in
      let number : one.1.past.session.number ≡ n = ap (λ (p : Past). p.session.number) one.3 ∙ tied.1 in
      (moves_up one.1, adds_up one.1, λ w added. bare_up (sat_up tied.2 sits.fresh one.1 number w added))

  -- a dispatch is offered beside the values of a batch
  pub offer_may : (now : ℕ) (xs : List Errand) (s u : Option Kept) (ticket : TicketView) (result : Result Placed (OfferRefusal × TicketView)) → SitsUp t n next s v → Holds v (beside (Some (ticket_of ticket)) xs)
      → Makes s u (λ p q. OfferStep p ticket now result q) → (s ≡ None → result ≡ Err (Closed, ticket))
      → May t v (λ w. SitsUp t n next u (bare_of w) × Holds (values_of w) (beside (left_by_offer result) xs))
  offer_may now xs None u ticket result sits holds made none =
      may_stay t v _ (bare_up (none_sits sits made), subst (λ r. Holds (values_of v) (beside (left_by_offer r) xs)) (sym (none refl)) (hold_values holds))
  offer_may now xs (Some k) None ticket result sits holds made none = absurd made
  offer_may now xs (Some k) (Some l) ticket (Err (why, back)) sits holds made none =
      let tied = sits.tied k refl in
      let came = (made.2 tied.0.past tied.0.reached tied.0.belongs).1.2 in
      let still = stayed_up (λ p q. OfferStep p ticket now (Err (why, back)) q) made.2 (begun_up tied.0) (λ p q x. x.1) in
      let nothing = subst (λ xs. AddedAll t (moves_by (Server still.0.past.session.number) xs) v v) (sym still.1) refl in
      may_stay t v _ (
        bare_up (sat_up tied.2 sits.fresh still.0 (ap (λ (p : Past). p.session.number) still.2 ∙ tied.1) v nothing),
        subst (λ x. Holds (values_of v) (beside (Some (ticket_of x)) xs)) (sym came) (hold_values holds),
      )
  offer_may now xs (Some k) (Some l) ticket (Ok placed) sits holds made none =
      let tied = sits.tied k refl in
      let there = holds.there 0 (ticket_of ticket) refl in
      let gives = PlacedAt placed.name placed.server placed.tag ∷ [] in
      let one = made_up (λ p q. OfferStep p ticket now (Ok placed) q) gives made.2 (begun_up tied.0) (Some (holds.claim 0)) there.0
      (λ p q x. let d = offer_uses ticket now placed tied.0.past.session.number p q x in (d.0, d.1, inl (d.2 (holds.claim 0) v.seen there.1), d.3)) in
      let number : one.1.past.session.number ≡ n = ap (λ (p : Past). p.session.number) one.3 ∙ tied.1 in (
        moves_up one.1,
        adds_up one.1,
        λ w added.
            let all = subst (λ xs. AddedAll t (moves_by (Server one.1.past.session.number) xs) v w) one.2 added in (
              bare_up (sat_up tied.2 sits.fresh one.1 number w added),
              subst (λ (y : View). Holds (values_of y) (beside (left_by_offer (Ok placed)) xs)) (sym all.2)
                  (hold_values (fewer (used all.1 holds 0 (ticket_of ticket) (left_by_offer (Ok placed)) refl refl (λ h e. ap (λ gs. slice_get gs 0) one.4 ∙ e)).0
                  (beside_more (left_by_offer (Ok placed)) (Some (ticket_of ticket)) xs))),
            ),
      )

  -- frames go out
  took_may : (k l : Kept) (frames : List MuxFrame) → SitsUp t n next (Some k) v → reached.Leads k l (λ p q. LeadsUp p (TookOut frames) q)
      → May t v (λ w. SitsUp t n next (Some l) (bare_of w) × IsGone t (Server n) frames (values_of w))
  took_may k l frames sits leads =
      let tied = sits.tied k refl in
      let g = leads tied.0.past tied.0.reached tied.0.belongs in
      let one = made_at_up {l = l} (begun_up tied.0) g.0 g.2 g.3 (TookOut frames) g.1 None tt (inl refl) in
      let number : one.0.past.session.number ≡ n = ap (λ (p : Past). p.session.number) one.2 ∙ tied.1 in (
        moves_up one.0,
        adds_up one.0,
        λ w added.
            let all = subst (λ m. AddedAll t (moves_by (Server m) (record { deed = TookOut frames; uses = None } ∷ [])) v w) number
            (subst (λ xs. AddedAll t (moves_by (Server one.0.past.session.number) xs) v w) one.1 added) in (
              bare_up (sat_up tied.2 sits.fresh one.0 number w added),
              subst (λ y. IsGone t (Server n) frames (values_of y)) (sym all.2) (all.1.before, all.1.seen, all.1.legal),
            ),
      )

  pub take_outs_may : (k : Kept) (u : Option Kept) (had : List FrameView) (room : ℕ) (has : List FrameView) (came : ℕ) → SitsUp t n next (Some k) v → TakesOut (Some k) u had room has came
      → May t v (λ w. SitsUp t n next u (bare_of w) × (0 < came → IsGone t (Server n) (frames_of has) (values_of w)))
  take_outs_may k u had room has came sits made = by_count (nat_lt 0 came) refl made
    where
      some_came : (u : Option Kept) → Makes (Some k) u (λ p q. TakeOutsStep p has q)
          → May t v (λ w. SitsUp t n next u (bare_of w) × (0 < came → IsGone t (Server n) (frames_of has) (values_of w)))
      some_came None made = absurd made
      some_came (Some l) made =
          let m = took_may k l (frames_of has) sits (λ p led belongs. let g = made.2 p led belongs in (g.0, takes_all has p g.0 g.1, g.2, g.3, g.4)) in
          (m.0, m.1, λ w added. ((m.2 w added).0, λ lt. (m.2 w added).1))

      none_came : GivesNone (Some k) u (length had) room → May t v (λ w. SitsUp t n next u (bare_of w))
      none_came (inl same) = may_stay t v _ (bare_up (subst (λ o. SitsUp t n next o v) (sym same.0) sits))
      none_came (inr makes) = plain_may (Some k) u _ sits (λ p q r. inr (TookOut [], (λ boot. tt, r.1), λ id x. refl)) makes

      none_left : (c : ℕ) → nat_lt 0 c ≡ false → 0 < c → ⊥
      none_left c is lt = grind (arith, nat_tests)

      by_count : (b : Bool) → nat_lt 0 came ≡ b → MatchBool b ((had ≡ []) × (came ≡ length has) × Makes (Some k) u (λ p q. TakeOutsStep p has q)) ((has ≡ had) × GivesNone (Some k) u (length had) room)
          → May t v (λ w. SitsUp t n next u (bare_of w) × (0 < came → IsGone t (Server n) (frames_of has) (values_of w)))
      by_count true is made = some_came u made.2
      by_count false is made = (let m = none_came made.1 in (m.0, m.1, λ w added. (m.2 w added, λ lt. absurd (none_left came is lt))))

  -- one frame, if there is one
  pub take_out_may : (s u : Option Kept) (frame : Option FrameView) → SitsUp t n next s v → Makes s u (λ p q. TakeOutStep p frame q) → (s ≡ None → frame ≡ None)
      → May t v (λ w. SitsUp t n next u (bare_of w) × ForSome frame (λ f. IsGone t (Server n) (f.frame ∷ []) (values_of w)))
  take_out_may None u frame sits made none = may_stay t v _ (bare_up (none_sits sits made), λ f is. absurd (let no : None ≡ Some f = sym (none refl) ∙ is in cc no))
  take_out_may (Some k) None frame sits made none = absurd made
  take_out_may (Some k) (Some l) None sits made none =
      let m = leads_may k l _ sits (λ p q r. inr (TookOut [], (λ boot. tt, r.1), λ id x. refl)) made.2 in
      (m.0, m.1, λ w added. (m.2 w added, λ f is. absurd (let no : None ≡ Some f = is in cc no)))
  take_out_may (Some k) (Some l) (Some f) sits made none =
      let m = took_may k l (f.frame ∷ []) sits (λ p led belongs. let g = made.2 p led belongs in (g.0, (λ boot. (sym g.1.0, tt), g.1.1), g.2, g.3, g.4)) in
      (m.0, m.1, λ w added. ((m.2 w added).0, λ x is. subst (λ (y : FrameView). IsGone t (Server n) (y.frame ∷ []) (values_of w)) (let same : f ≡ x = cc is in same) (m.2 w added).1))

  -- the frames of a batch that had nothing in hand
  pub batch_may : (now : ℕ) (had has : Receiving) (old new : Batched) (s u : Option Kept) (result : Result (Unit {0}) HubFault) → SitsUp t n next s v → old.errands ≡ []
      → OnOk result (TakesAllUp now s u old new had has)
      → IfErr result (λ e. (f : FrameView) × (handed_back e ≡ Some f) × TakesAllUp now s u old (record new { frames = f ∷ new.frames }) had has)
      → May t v (λ w. SitsUp t n next u (bare_of w) × HasClaims (values_of w) new.errands)
  batch_may now had has old new s u (Ok done) sits none ok err =
      subst (λ xs. May t v (λ w. SitsUp t n next u (bare_of w) × HasClaims (values_of w) xs)) (sym (ok.5 ∙ ap (λ es. es ++ ok.2) none)) (frames_may s u ok.0 ok.1 ok.2 sits ok.7)
  batch_may now had has old new s u (Err e) sits none ok err =
      subst (λ xs. May t v (λ w. SitsUp t n next u (bare_of w) × HasClaims (values_of w) xs)) (sym (err.2.5 ∙ ap (λ es. es ++ err.2.2) none)) (frames_may s u err.2.0 err.2.1 err.2.2 sits err.2.7)

  -- a session begins
  pub open_may : {m : ℕ} (k : Kept) → SitsUp t m next None v → next ≤ n → Owns t v (Server n)
      → Belongs k.state (begun (record { limits = t.server_limits; number = n; mode = k.mode })) → May t v (λ w. SitsUp t n (n + 1) (Some k) (bare_of w))
  open_may k sits least owns belongs =
      let from : SitsUp t n n None v = record { tied = λ x is. absurd (let no : None ≡ Some x = is in cc no); fresh = λ j past o. sits.fresh j (omega (arith, least, past)) o } in
      let m = opens_up t n k.mode k v refl from owns belongs (refl, IsReachedUp.begins) in
      (m.0, m.1, λ w added. bare_up (m.2 w added))

  -- the same, by the number that the session was called by
  pub take_outs_at : (id : ℕ) (s u : Option Kept) (had : List FrameView) (room : ℕ) (has : List FrameView) (came : ℕ) → n ≡ id → SitsUp t n next s v → is_some s ≡ true → TakesOut s u had room has came
      → May t v (λ w. SitsUp t n next u (bare_of w) × (0 < came → IsGone t (Server id) (frames_of has) (values_of w)))
  take_outs_at id None u had room has came is sits some made = absurd (true≢false (sym some))
  take_outs_at id (Some k) u had room has came is sits some made =
      subst (λ i. May t v (λ w. SitsUp t n next u (bare_of w) × (0 < came → IsGone t (Server i) (frames_of has) (values_of w)))) is (take_outs_may k u had room has came sits made)

  pub take_out_at : (id : ℕ) (s u : Option Kept) (frame : Option FrameView) → n ≡ id → SitsUp t n next s v → Makes s u (λ p q. TakeOutStep p frame q) → (s ≡ None → frame ≡ None)
      → May t v (λ w. SitsUp t n next u (bare_of w) × ForSome frame (λ f. IsGone t (Server id) (f.frame ∷ []) (values_of w)))
  take_out_at id s u frame is sits made none =
      subst (λ i. May t v (λ w. SitsUp t n next u (bare_of w) × ForSome frame (λ f. IsGone t (Server i) (f.frame ∷ []) (values_of w)))) is (take_out_may s u frame sits made none)

  pub open_at : {m : ℕ} (s : Option Kept) (home : Option ℕ) (at later : ℕ) (k : Kept) → SitsUp t m next s v → is_some s ≡ false → home ≡ Some at → ForSome home (λ h. (v.low ≡ h) × (v.high ≡ h + 1))
      → slot_of t (Server n) ≡ at → next ≤ n → later ≡ n + 1 → Belongs k.state (begun (record { limits = t.server_limits; number = n; mode = k.mode }))
      → May t v (λ w. SitsUp t n later (Some k) (bare_of w))
  open_at (Some j) home at later k sits none here bounds slot least is belongs = absurd (true≢false none)
  open_at None home at later k sits none here bounds slot least is belongs =
      let b = bounds at here in
      subst (λ x. May t v (λ w. SitsUp t n x (Some k) (bare_of w))) (sym is) (open_may k sits least (omega (arith, b.0, slot), omega (arith, b.1, slot)) belongs)

-- a session leaves its place, or gives histories up
pub left_up : {t : Terms} {n next : ℕ} {v : View} (s u : Option Kept) (result : Option Kept) → Leaves s u result → SitsUp t n next s v → SitsUp t n next u v
left_up {t = t} {n = n} {next = next} {v = v} s u (Some k) left sits = record { tied = λ x is. absurd (let no : None ≡ Some x = sym left.1 ∙ is in cc no); fresh = sits.fresh }
left_up {t = t} {n = n} {next = next} {v = v} s u None left sits = subst (λ o. SitsUp t n next o v) (sym left.0) sits

pub given_up : {t : Terms} {n next : ℕ} {v : View} (s u : Option Kept) (had : List Log) (room : ℕ) (has : List Log) (first : Option ℕ) → TakesEnded s u had room has first → SitsUp t n next s v → SitsUp t n next u v
given_up {t = t} {n = n} {next = next} {v = v} s u had room has None given sits = subst (λ o. SitsUp t n next o v) (sym given.0) sits
given_up None u had room has (Some first) given sits = absurd given.1
given_up {t = t} {n = n} {next = next} {v = v} (Some k) u had room has (Some first) given sits =
    let same = sits.tied k refl in
    let tied = same.0 in
    subst (λ o. SitsUp t n next o v) (sym given.1.0) (record {
      tied = λ x is. subst (λ y. (s : TiedUp t y v) × (s.past.session.number ≡ n) × (n < next)) (let is_it : record k { ended = [] } ≡ x = cc is in is_it)
          (record { past = tied.past; reached = tied.reached; belongs = tied.belongs; limits = tied.limits; knows = tied.knows }, same.1, same.2);
      fresh = sits.fresh;
    })
