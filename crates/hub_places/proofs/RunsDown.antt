-- The values of a batch that one client's session was handed, and what its frames gave.
use Rattle.std.proofs.Common.{◌≡◌, ℕ, List, [], Option, Some, None, Result, Ok, Err, slice_get, slice_set, refl, sym, ap, ◌∙◌, subst, inl}
use Rattle.mux_history.specs.declared.session.SessionId.TheVariants.{Client}
use Rattle.mux_message.specs.Content.{MessageView}
use Rattle.mux_model.specs.Steps.{Held, PlacedAt, SettledBy, NackCall, UnrouteCall}
use Rattle.translate_book.specs.Values.{TicketView}
use Rattle.translate_book.specs.declared.placed.Placed.{Placed}
use Rattle.translate_book.specs.declared.recall.Recall.{Recall}
use Rattle.translate_book.specs.declared.sent.Settled.{Settled}
use Rattle.client_session.specs.State as up_state
use Rattle.server_session.specs.Past.{Past}
use Rattle.server_session.specs.Steps as steps
use Rattle.server_session.specs.Steps.{NackStep, NoteStep, SettleStep, UnrouteStep, ticket_of, recall_of, recall_in, given_again, noting, settling}
use Rattle.server_session.specs.declared.answers.Answer.{Answer}
use Rattle.server_session.specs.declared.answers.Answer.TheVariants.{Again, Answered, Late}
use Rattle.kept_session.specs.ReachedDown as reached
use Rattle.kept_session.specs.ReachedDown.{KeptDown}
use Rattle.hub_base.specs.Errands.{client_at, client_of, done, errand_at, recalling, unsent}
use Rattle.hub_base.specs.declared.errands.Errand.{Errand}
use Rattle.hub_base.specs.declared.errands.Value.TheVariants as value
use Rattle.hub_steps.specs.Batches.{AnswersDown, after_note, after_settle}
use Rattle.hub_steps.specs.Down.{MakesDown}
use Rattle.hub_log.specs.declared.terms.Terms.{Terms}
use Rattle.hub_log.specs.Moves.{Claim, Deed, Did, Move, gives_of, value_of}
use Rattle.hub_log.specs.Bag.{IsGiven}
use Rattle.hub_log.specs.Views.{View}
use Rattle.hub_log.specs.Turns.{Turn}
use Rattle.hub_places.specs.MovesDown.{LeadsDown}
use Rattle.hub_places.specs.Holding.{GoesTo, Holds, held_in, held_of}
use Rattle.hub_places.specs.Tied.{MadeDown}
use Rattle.hub_places.proofs.Running.{Runs, clients, dropped, is_there, run_more, run_stays}
use Rattle.hub_places.proofs.Tying.{made_down, stayed_down}

pub record RunDown (t : Terms) (v : View) (xs : List Errand) (H : Holds v (held_in xs)) (client : ℕ) (k : KeptDown) (ys : List Errand) : Type 0 where
  pub made : MadeDown t v k
  pub number : made.past.session.number ≡ client
  pub runs : Runs t v xs H (Client client) client_of made.turns ys

-- the session makes such a step by a call that uses this value, and gives these
abbrev pub Uses : (Past → Past → Type 0) → ℕ → Held → List Held → Type 0
Uses R client k gives =
    (p q : Past) → R p q
    → (deed : Deed) × LeadsDown p deed q × ((c : Claim) (old : List Move) → value_of c old ≡ Some k → IsGiven (Client client) deed (Some c) old)
    × (gives_of deed ≡ gives)

module _ {t : Terms} {v : View} {xs : List Errand} {H : Holds v (held_in xs)} {client : ℕ} where
  pub used_down : {k : KeptDown} {ys : List Errand} → RunDown t v xs H client k ys → (at n : ℕ) (h : Held) → client_at ys at ≡ Some n → held_in ys at ≡ Some h
      → (R : Past → Past → Type 0) (gives : List Held) (l : KeptDown) → reached.LeadsDown k l R → Uses R client h gives
      → (e : Errand) (zs : List Errand) → client_of e.to e.value ≡ None → ((g : Held) → held_of e.value ≡ Some g → slice_get gives 0 ≡ Some g) → GoesTo e.to e.value
      → zs ≡ slice_set ys at e → RunDown t v xs H client l zs
  used_down run at n h to_it is R gives l leads uses e zs none given goes set =
      let there = is_there clients run.runs at n h to_it is in
      let c = H.claim at in
      let m = made_down R gives leads run.made (Some c) there.0
      (λ p q r. let u = uses p q r in (u.0, u.1, inl (subst (λ m. IsGiven (Client m) u.0 (Some c) v.seen) (sym run.number) (u.2 c v.seen there.1)), u.3)) in
      let x : Turn = record { deed = m.0; uses = Some c } in
      record {
        made = m.1;
        number = ap (λ (p : Past). p.session.number) m.3 ∙ run.number;
        runs = subst (λ turns. Runs t v xs H (Client client) client_of turns zs) (sym m.2)
            (run_more clients run.runs at n h to_it is x refl e zs none (λ g i. ap (λ gs. slice_get gs 0) m.4 ∙ given g i) goes set);
      }

  pub kept_down : {k : KeptDown} {ys : List Errand} → RunDown t v xs H client k ys → (at : ℕ)
      → (R : Past → Past → Type 0) (l : KeptDown) → reached.LeadsDown k l R → ((p q : Past) → R p q → q ≡ p)
      → (zs : List Errand) → zs ≡ slice_set ys at done → RunDown t v xs H client l zs
  kept_down run at R l leads same zs set =
      let s = stayed_down R leads run.made same in
      record {
        made = s.0;
        number = ap (λ (p : Past). p.session.number) s.2 ∙ run.number;
        runs = subst (λ turns. Runs t v xs H (Client client) client_of turns zs) (sym s.1)
            (run_stays clients run.runs at done zs refl (λ h is. absurd (let no : None ≡ Some h = is in cc)) tt set);
      }

frame_in_same : (o : Option MessageView) → up_state.frame_in o ≡ steps.frame_in o
frame_in_same None = refl
frame_in_same (Some m) = refl

-- what each call uses
note_uses : (placed : Placed) (recall : Option Recall) (client : ℕ) → client ≡ placed.name.client
    → Uses (λ p q. NoteStep p placed (Ok recall) q) client (PlacedAt placed.name placed.server placed.tag) (recall_in recall)
note_uses placed recall client own p q r =
    (Did (noting placed) r.0 (recall_in recall), (r.4.0, r.4.1), λ c old is. (PlacedAt placed.name placed.server placed.tag, is, (refl, ap Client own)), refl)

settle_uses : (settled : Settled) (answer : Answer) (client : ℕ) → client ≡ settled.name.client
    → Uses (λ p q. SettleStep p settled (Ok answer) q) client (SettledBy settled.name settled.reply.frame (up_state.frame_in settled.again)) (given_again answer)
settle_uses settled answer client own p q r = (
  Did (settling settled) r.0 (given_again answer),
  (r.4.0, r.4.1),
  λ c old is. (
    SettledBy settled.name settled.reply.frame (up_state.frame_in settled.again),
    is,
    (ap (SettledBy settled.name settled.reply.frame) (frame_in_same settled.again), ap Client own),
  ),
  refl,
)

nack_uses : (ticket : TicketView) (answer : Answer) (client : ℕ) → client ≡ ticket.name.client
    → Uses (λ p q. NackStep p ticket (Ok answer) q) client (ticket_of ticket) []
nack_uses ticket said client own p q r =
    (Did (NackCall ticket.name) r.0 [], (r.4.0, r.4.1), λ c old is. (ticket_of ticket, is, ((ticket.frame, ticket.left, refl), ap Client own)), refl)

unroute_uses : (ticket : TicketView) (answer : Answer) (client : ℕ) → client ≡ ticket.name.client
    → Uses (λ p q. UnrouteStep p ticket (Ok answer) q) client (ticket_of ticket) []
unroute_uses ticket said client own p q r =
    (Did (UnrouteCall ticket.name) r.0 [], (r.4.0, r.4.1), λ c old is. (ticket_of ticket, is, ((ticket.frame, ticket.left, refl), ap Client own)), refl)

-- what stands where the value was
no_value : (gives : List Held) (g : Held) → held_of value.Nothing ≡ Some g → slice_get gives 0 ≡ Some g
no_value gives g is = absurd (let no : None ≡ Some g = is in cc)

module _ {t : Terms} {v : View} {xs : List Errand} {H : Holds v (held_in xs)} {client : ℕ} {k : KeptDown} {ys : List Errand} (run : RunDown t v xs H client k ys) (at : ℕ) (l : KeptDown) (zs : List Errand) where
  noted : (placed : Placed) (result : Result (Option Recall) Placed) → errand_at ys at ≡ record { to = client; value = value.Placed placed }
      → reached.LeadsDown k l (λ p q. NoteStep p placed result q) → zs ≡ slice_set ys at (after_note result) → RunDown t v xs H client l zs
  noted placed (Ok (Some recall)) here leads set =
      used_down run at client (PlacedAt placed.name placed.server placed.tag) (ap (λ (e : Errand). client_of e.to e.value) here) (ap (λ (e : Errand). held_of e.value) here)
      _ (recall_in (Some recall)) l leads (note_uses placed (Some recall) client (subst (λ (e : Errand). GoesTo e.to e.value) here (run.runs.goes at)))
      (recalling recall) zs refl (λ g is. is) refl set
  noted placed (Ok None) here leads set =
      used_down run at client (PlacedAt placed.name placed.server placed.tag) (ap (λ (e : Errand). client_of e.to e.value) here) (ap (λ (e : Errand). held_of e.value) here)
      _ (recall_in None) l leads (note_uses placed None client (subst (λ (e : Errand). GoesTo e.to e.value) here (run.runs.goes at)))
      done zs refl (no_value []) tt set
  noted placed (Err back) here leads set = kept_down run at _ l leads (λ p q r. r.0.1) zs set

  settled_by : (settled : Settled) (result : Result Answer Settled) → errand_at ys at ≡ record { to = client; value = value.Reply settled }
      → reached.LeadsDown k l (λ p q. SettleStep p settled result q) → zs ≡ slice_set ys at (after_settle result) → RunDown t v xs H client l zs
  settled_by settled (Ok (Again ticket)) here leads set =
      used_down run at client _ (ap (λ (e : Errand). client_of e.to e.value) here) (ap (λ (e : Errand). held_of e.value) here)
      _ (given_again (Again ticket)) l leads (settle_uses settled (Again ticket) client (subst (λ (e : Errand). GoesTo e.to e.value) here (run.runs.goes at)))
      (unsent ticket) zs refl (λ g is. is) tt set
  settled_by settled (Ok Answered) here leads set =
      used_down run at client _ (ap (λ (e : Errand). client_of e.to e.value) here) (ap (λ (e : Errand). held_of e.value) here)
      _ [] l leads (settle_uses settled Answered client (subst (λ (e : Errand). GoesTo e.to e.value) here (run.runs.goes at)))
      done zs refl (no_value []) tt set
  settled_by settled (Ok Late) here leads set =
      used_down run at client _ (ap (λ (e : Errand). client_of e.to e.value) here) (ap (λ (e : Errand). held_of e.value) here)
      _ [] l leads (settle_uses settled Late client (subst (λ (e : Errand). GoesTo e.to e.value) here (run.runs.goes at)))
      done zs refl (no_value []) tt set
  settled_by settled (Err back) here leads set = kept_down run at _ l leads (λ p q r. r.0.1) zs set

  nacked : (ticket : TicketView) (result : Result Answer TicketView) → errand_at ys at ≡ record { to = client; value = value.Unplaced ticket }
      → reached.LeadsDown k l (λ p q. NackStep p ticket result q) → zs ≡ slice_set ys at done → RunDown t v xs H client l zs
  nacked ticket (Ok answer) here leads set =
      used_down run at client (ticket_of ticket) (ap (λ (e : Errand). client_of e.to e.value) here) (ap (λ (e : Errand). held_of e.value) here)
      _ [] l leads (nack_uses ticket answer client (subst (λ (e : Errand). GoesTo e.to e.value) here (run.runs.goes at))) done zs refl (no_value []) tt set
  nacked ticket (Err back) here leads set = kept_down run at _ l leads (λ p q r. r.0.1) zs set

  unrouted : (ticket : TicketView) (result : Result Answer TicketView) → errand_at ys at ≡ record { to = client; value = value.Unrouted ticket }
      → reached.LeadsDown k l (λ p q. UnrouteStep p ticket result q) → zs ≡ slice_set ys at done → RunDown t v xs H client l zs
  unrouted ticket (Ok answer) here leads set =
      used_down run at client (ticket_of ticket) (ap (λ (e : Errand). client_of e.to e.value) here) (ap (λ (e : Errand). held_of e.value) here)
      _ [] l leads (unroute_uses ticket answer client (subst (λ (e : Errand). GoesTo e.to e.value) here (run.runs.goes at))) done zs refl (no_value []) tt set
  unrouted ticket (Err back) here leads set = kept_down run at _ l leads (λ p q r. r.0.1) zs set

-- a slot with a session keeps one
some_made : (k : KeptDown) (t u : Option KeptDown) (R : Past → Past → Type 0) → t ≡ Some k → MakesDown t u R → (l : KeptDown) × (u ≡ Some l) × reached.LeadsDown k l R
some_made k t None R is made = absurd (subst (λ o. MakesDown o None R) is made)
some_made k t (Some l) R is made = (l, refl, (subst (λ o. MakesDown o (Some l) R) is made).1)

-- one lock of a session with a session in it
pub answered_run : {t : Terms} {v : View} {xs : List Errand} {H : Holds v (held_in xs)} {client : ℕ} {k : KeptDown} → RunDown t v xs H client k xs → (u : Option KeptDown) (ys : List Errand)
    → AnswersDown client (Some k) xs u ys → (l : KeptDown) × (u ≡ Some l) × RunDown t v xs H client l ys
answered_run {k = k} begun u ys AnswersDown.none = (k, refl, begun)
answered_run begun _ _ (AnswersDown.note {t = s} {u = u} {ys = ys} {zs = zs} at placed result here makes empty set before) =
    let b = answered_run begun s ys before in
    let l = some_made b.0 s u _ b.1 makes in
    (l.0, l.1, noted b.2 at l.0 zs placed result here l.2 set)
answered_run begun _ _ (AnswersDown.settle {t = s} {u = u} {ys = ys} {zs = zs} at settled result here makes empty set before) =
    let b = answered_run begun s ys before in
    let l = some_made b.0 s u _ b.1 makes in
    (l.0, l.1, settled_by b.2 at l.0 zs settled result here l.2 set)
answered_run begun _ _ (AnswersDown.nack {t = s} {u = u} {ys = ys} {zs = zs} at ticket result here makes empty set before) =
    let b = answered_run begun s ys before in
    let l = some_made b.0 s u _ b.1 makes in
    (l.0, l.1, nacked b.2 at l.0 zs ticket result here l.2 set)
answered_run begun _ _ (AnswersDown.unroute {t = s} {u = u} {ys = ys} {zs = zs} at ticket result here makes empty set before) =
    let b = answered_run begun s ys before in
    let l = some_made b.0 s u _ b.1 makes in
    (l.0, l.1, unrouted b.2 at l.0 zs ticket result here l.2 set)

-- a slot with none hands each value back
pub answered_none : {v : View} {client : ℕ} {xs : List Errand} (u : Option KeptDown) (ys : List Errand) → (H : Holds v (held_in xs)) → ((i : ℕ) → GoesTo (errand_at xs i).to (errand_at xs i).value)
    → AnswersDown client None xs u ys → (u ≡ None) × Holds v (held_in ys) × ((i : ℕ) → GoesTo (errand_at ys i).to (errand_at ys i).value)
answered_none u ys H goes AnswersDown.none = (refl, H, goes)
answered_none _ _ H goes (AnswersDown.note {t = s} {u = u} {ys = ys} {zs = zs} at placed result here makes empty set before) =
    let b = answered_none s ys H goes before in
    let none = subst (λ o. MakesDown o u (λ p q. NoteStep p placed result q)) b.0 makes in
    let d = dropped ys zs at b.1 b.2 (set ∙ ap (λ r. slice_set ys at (after_note r)) (empty b.0)) in
    (none, d.0, d.1)
answered_none _ _ H goes (AnswersDown.settle {t = s} {u = u} {ys = ys} {zs = zs} at settled result here makes empty set before) =
    let b = answered_none s ys H goes before in
    let none = subst (λ o. MakesDown o u (λ p q. SettleStep p settled result q)) b.0 makes in
    let d = dropped ys zs at b.1 b.2 (set ∙ ap (λ r. slice_set ys at (after_settle r)) (empty b.0)) in
    (none, d.0, d.1)
answered_none _ _ H goes (AnswersDown.nack {t = s} {u = u} {ys = ys} {zs = zs} at ticket result here makes empty set before) =
    let b = answered_none s ys H goes before in
    let none = subst (λ o. MakesDown o u (λ p q. NackStep p ticket result q)) b.0 makes in
    let d = dropped ys zs at b.1 b.2 set in
    (none, d.0, d.1)
answered_none _ _ H goes (AnswersDown.unroute {t = s} {u = u} {ys = ys} {zs = zs} at ticket result here makes empty set before) =
    let b = answered_none s ys H goes before in
    let none = subst (λ o. MakesDown o u (λ p q. UnrouteStep p ticket result q)) b.0 makes in
    let d = dropped ys zs at b.1 b.2 set in
    (none, d.0, d.1)
