-- The values of a batch that one server's session was handed.
use Rattle.std.proofs.Common.{◌≡◌, ℕ, List, [], ◌∷◌, Option, Some, None, Result, Ok, Err, slice_get, slice_set, refl, sym, ap, ◌∙◌, subst, inl}
use Rattle.mux_history.specs.declared.session.SessionId.TheVariants.{Server}
use Rattle.mux_model.specs.Steps.{Held, PlacedAt}
use Rattle.translate_book.specs.Values.{TicketView}
use Rattle.translate_book.specs.declared.placed.Placed.{Placed}
use Rattle.translate_book.specs.declared.recall.Recall.{Recall}
use Rattle.translate_book.specs.declared.refusal.OfferRefusal.{OfferRefusal}
use Rattle.client_session.specs.Past.{Past}
use Rattle.client_session.specs.Steps.{OfferStep, RecallStep, offering, recalling}
use Rattle.client_session.specs.declared.answers.Recalled.{Recalled}
use Rattle.client_session.specs.declared.answers.Recalled.TheVariants as recalls
use Rattle.server_session.specs.Steps.{recall_of, ticket_of}
use Rattle.kept_session.specs.Reached as reached
use Rattle.kept_session.specs.Reached.{Kept}
use Rattle.hub_base.specs.Errands as errands
use Rattle.hub_base.specs.Errands.{server_at, server_of, done, errand_at}
use Rattle.hub_base.specs.declared.errands.Errand.{Errand}
use Rattle.hub_base.specs.declared.errands.Value.TheVariants as value
use Rattle.hub_steps.specs.Batches.{ServesUp, after_offer}
use Rattle.hub_steps.specs.Up.{Makes}
use Rattle.hub_log.specs.declared.terms.Terms.{Terms}
use Rattle.hub_log.specs.Moves.{Claim, Deed, Did, Move, gives_of, value_of}
use Rattle.hub_log.specs.Bag.{IsGiven}
use Rattle.hub_log.specs.Views.{View}
use Rattle.hub_log.specs.Turns.{Turn}
use Rattle.hub_places.specs.MovesUp.{LeadsUp}
use Rattle.hub_places.specs.Holding.{GoesTo, Holds, held_in, held_of}
use Rattle.hub_places.specs.Tied.{MadeUp}
use Rattle.hub_places.proofs.Running.{Runs, servers, is_there, remarked, run_more, run_stays}
use Rattle.hub_places.proofs.Tying.{made_up, stayed_up}

pub record RunUp (t : Terms) (v : View) (xs : List Errand) (H : Holds v (held_in xs)) (server : ℕ) (k : Kept) (ys : List Errand) : Type 0 where
  pub made : MadeUp t v k
  pub number : made.past.session.number ≡ server
  pub runs : Runs t v xs H (Server server) server_of made.turns ys

-- the session makes such a step by a call that uses this value, and gives these
abbrev pub Uses : (Past → Past → Type 0) → ℕ → Held → List Held → Type 0
Uses R server k gives =
    (p q : Past) → R p q
    → (deed : Deed) × LeadsUp p deed q × ((c : Claim) (old : List Move) → value_of c old ≡ Some k → IsGiven (Server server) deed (Some c) old)
    × (gives_of deed ≡ gives)

pub offer_uses : (ticket : TicketView) (now : ℕ) (placed : Placed) (server : ℕ)
    → Uses (λ p q. OfferStep p ticket now (Ok placed) q) server (ticket_of ticket) (PlacedAt placed.name placed.server placed.tag ∷ [])
offer_uses ticket now placed server p q r = (
  Did (offering ticket now) r.1.0 (PlacedAt placed.name placed.server placed.tag ∷ []),
  (placed.tag, r.0, r.1.1.0, r.1.1.1),
  λ c old is. (ticket_of ticket, is, refl),
  refl,
)

pub recall_uses : (r : Recall) (now server : ℕ) → server ≡ r.server → Uses (λ p q. RecallStep p r now recalls.Sent q) server (recall_of r) []
recall_uses r now server own p q s =
    (Did (recalling r now) s.0 [], (0, tt, s.1.0, s.1.1), λ c old is. (recall_of r, is, (r.server, refl, ap Server own)), refl)

module _ {t : Terms} {v : View} {xs : List Errand} {H : Holds v (held_in xs)} {server : ℕ} where
  pub used_up : {k : Kept} {ys : List Errand} → RunUp t v xs H server k ys → (at n : ℕ) (h : Held) → server_at ys at ≡ Some n → held_in ys at ≡ Some h
      → (R : Past → Past → Type 0) (gives : List Held) (l : Kept) → reached.Leads k l R → Uses R server h gives
      → (e : Errand) (zs : List Errand) → server_of e.to e.value ≡ None → ((g : Held) → held_of e.value ≡ Some g → slice_get gives 0 ≡ Some g) → GoesTo e.to e.value
      → zs ≡ slice_set ys at e → RunUp t v xs H server l zs
  used_up run at n h to_it is R gives l leads uses e zs none given goes set =
      let there = is_there servers run.runs at n h to_it is in
      let c = H.claim at in
      let m = made_up R gives leads run.made (Some c) there.0
      (λ p q r. let u = uses p q r in (u.0, u.1, inl (subst (λ m. IsGiven (Server m) u.0 (Some c) v.seen) (sym run.number) (u.2 c v.seen there.1)), u.3)) in
      let x : Turn = record { deed = m.0; uses = Some c } in
      record {
        made = m.1;
        number = ap (λ (p : Past). p.session.number) m.3 ∙ run.number;
        runs = subst (λ turns. Runs t v xs H (Server server) server_of turns zs) (sym m.2)
            (run_more servers run.runs at n h to_it is x refl e zs none (λ g i. ap (λ gs. slice_get gs 0) m.4 ∙ given g i) goes set);
      }

  pub kept_up : {k : Kept} {ys : List Errand} → RunUp t v xs H server k ys → (at : ℕ)
      → (R : Past → Past → Type 0) (l : Kept) → reached.Leads k l R → ((p q : Past) → R p q → q ≡ p)
      → (e : Errand) (zs : List Errand) → server_of e.to e.value ≡ None → ((h : Held) → held_of e.value ≡ Some h → held_in ys at ≡ Some h) → GoesTo e.to e.value
      → zs ≡ slice_set ys at e → RunUp t v xs H server l zs
  kept_up run at R l leads same e zs none put goes set =
      let s = stayed_up R leads run.made same in
      record {
        made = s.0;
        number = ap (λ (p : Past). p.session.number) s.2 ∙ run.number;
        runs = subst (λ turns. Runs t v xs H (Server server) server_of turns zs) (sym s.1) (run_stays servers run.runs at e zs none put goes set);
      }

module _ {t : Terms} {v : View} {xs : List Errand} {H : Holds v (held_in xs)} {server : ℕ} {k : Kept} {ys : List Errand} (run : RunUp t v xs H server k ys) (at : ℕ) (l : Kept) (zs : List Errand) (now : ℕ) where
  offered : (ticket : TicketView) (result : Result Placed (OfferRefusal × TicketView)) → errand_at ys at ≡ record { to = server; value = value.Ticket ticket }
      → reached.Leads k l (λ p q. OfferStep p ticket now result q) → zs ≡ slice_set ys at (after_offer server result) → RunUp t v xs H server l zs
  offered ticket (Ok placed) here leads set =
      used_up run at server (ticket_of ticket) (ap (λ (e : Errand). server_of e.to e.value) here) (ap (λ (e : Errand). held_of e.value) here)
      _ (PlacedAt placed.name placed.server placed.tag ∷ []) l leads (offer_uses ticket now placed server)
      (errands.placing placed) zs refl (λ g is. is) refl set
  offered ticket (Err (why, back)) here leads set =
      let came = (leads run.made.next run.made.reached run.made.belongs).1.2 in
      kept_up run at _ l leads (λ p q r. r.1) (errands.refused server back) zs refl
      (λ h is. ap (λ (e : Errand). held_of e.value) here ∙ (ap (λ (x : TicketView). Some (ticket_of x)) (sym came) ∙ is)) tt set

  recalled : (r : Recall) (result : Recalled) → errand_at ys at ≡ record { to = server; value = value.Recall r }
      → reached.Leads k l (λ p q. RecallStep p r now result q) → zs ≡ slice_set ys at done → RunUp t v xs H server l zs
  recalled r recalls.Sent here leads set =
      used_up run at server (recall_of r) (ap (λ (e : Errand). server_of e.to e.value) here) (ap (λ (e : Errand). held_of e.value) here)
      _ [] l leads (recall_uses r now server (subst (λ (e : Errand). GoesTo e.to e.value) here (run.runs.goes at)))
      done zs refl (λ g is. absurd (let no : None ≡ Some g = is in cc)) tt set
  recalled r recalls.Stale here leads set =
      kept_up run at _ l leads (λ p q s. s.1) done zs refl (λ h is. absurd (let no : None ≡ Some h = is in cc)) tt set

some_made : (k : Kept) (t u : Option Kept) (R : Past → Past → Type 0) → t ≡ Some k → Makes t u R → (l : Kept) × (u ≡ Some l) × reached.Leads k l R
some_made k t None R is made = absurd (subst (λ o. Makes o None R) is made)
some_made k t (Some l) R is made = (l, refl, (subst (λ o. Makes o (Some l) R) is made).2)

pub served_run : {t : Terms} {v : View} {xs : List Errand} {H : Holds v (held_in xs)} {server now : ℕ} {k : Kept} → RunUp t v xs H server k xs → (u : Option Kept) (ys : List Errand)
    → ServesUp now server (Some k) xs u ys → (l : Kept) × (u ≡ Some l) × RunUp t v xs H server l ys
served_run {k = k} begun u ys ServesUp.none = (k, refl, begun)
served_run {now = now} begun _ _ (ServesUp.offer {t = s} {u = u} {ys = ys} {zs = zs} at ticket result here makes empty set before) =
    let b = served_run begun s ys before in
    let l = some_made b.0 s u _ b.1 makes in
    (l.0, l.1, offered b.2 at l.0 zs now ticket result here l.2 set)
served_run {now = now} begun _ _ (ServesUp.recall {t = s} {u = u} {ys = ys} {zs = zs} at r result here makes empty set before) =
    let b = served_run begun s ys before in
    let l = some_made b.0 s u _ b.1 makes in
    (l.0, l.1, recalled b.2 at l.0 zs now r result here l.2 set)

-- a slot with none hands each value back
pub served_none : {v : View} {server now : ℕ} {xs : List Errand} (u : Option Kept) (ys : List Errand) → (H : Holds v (held_in xs)) → ((i : ℕ) → GoesTo (errand_at xs i).to (errand_at xs i).value)
    → ServesUp now server None xs u ys → (u ≡ None) × Holds v (held_in ys) × ((i : ℕ) → GoesTo (errand_at ys i).to (errand_at ys i).value)
served_none u ys H goes ServesUp.none = (refl, H, goes)
served_none {server = server} {now = now} _ _ H goes (ServesUp.offer {t = s} {u = u} {ys = ys} {zs = zs} at ticket result here makes empty set before) =
    let b = served_none s ys H goes before in
    let none = subst (λ o. Makes o u (λ p q. OfferStep p ticket now result q)) b.0 makes in
    let d = remarked ys zs at (errands.refused server ticket) b.1 b.2 (λ h is. ap (λ (e : Errand). held_of e.value) here ∙ is) tt (set ∙ ap (λ r. slice_set ys at (after_offer server r)) (empty b.0)) in
    (none, d.0, d.1)
served_none {now = now} _ _ H goes (ServesUp.recall {t = s} {u = u} {ys = ys} {zs = zs} at r result here makes empty set before) =
    let b = served_none s ys H goes before in
    let none = subst (λ o. Makes o u (λ p q. RecallStep p r now result q)) b.0 makes in
    let d = remarked ys zs at done b.1 b.2 (λ h is. absurd (let no : None ≡ Some h = is in cc no)) tt set in
    (none, d.0, d.1)
