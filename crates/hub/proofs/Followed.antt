-- What becomes of the value at one place of a batch, whatever steps a call makes.
use Rattle.std.proofs.Common.{◌≡◌, ℕ, Bool, true, false, List, Option, Some, None, Result, Ok, Err, slice_set, inl, inr, refl, sym, ap, ◌∙◌, subst}
use Rattle.std.proofs.lemmas.Bool.{cases_eq}
use mathlib.Core.List.{IsPrefix}
use Rattle.route_table.specs.Routes.{Change}
use Rattle.published_routes.specs.Orders.{route_in}
use Rattle.published_routes.proofs.Prefixes.{prefix_self, prefix_trans}
use Rattle.translate_book.specs.Values.{TicketView}
use Rattle.translate_book.specs.declared.placed.Placed.{Placed}
use Rattle.translate_book.specs.declared.recall.Recall.{Recall}
use Rattle.translate_book.specs.declared.refusal.OfferRefusal.{OfferRefusal}
use Rattle.translate_book.specs.declared.refusal.OfferRefusal.TheVariants.{Closed}
use Rattle.translate_book.specs.declared.sent.Settled.{Settled}
use Rattle.client_session.specs.Past as up
use Rattle.client_session.specs.Steps.{OfferStep, RecallStep}
use Rattle.client_session.specs.declared.answers.Recalled.{Recalled}
use Rattle.client_session.specs.declared.answers.Recalled.TheVariants.{Stale}
use Rattle.server_session.specs.Past as down
use Rattle.server_session.specs.Steps.{NackStep, NoteStep, SettleStep, UnrouteStep}
use Rattle.server_session.specs.declared.answers.Answer.{Answer}
use Rattle.kept_session.specs.Reached.{Kept, WereKept}
use Rattle.kept_session.specs.ReachedDown.{KeptDown, WereKeptDown}
use Rattle.kept_session.proofs.Reaching as reaching
use Rattle.kept_session.proofs.ReachingDown as reaching_down
use Rattle.hub_base.specs.Errands.{back, done, errand_at, give_back, ticket_at, ticket_of}
use Rattle.hub_base.specs.declared.errands.Back.TheVariants as why
use Rattle.hub_base.specs.declared.errands.Errand.{Errand}
use Rattle.hub_base.specs.declared.errands.Value.{Value}
use Rattle.hub_base.specs.declared.errands.Value.TheVariants as value
use Rattle.hub_base.proofs.Places.{elsewhere}
use Rattle.hub_steps.specs.Batches.{AnswersDown, ServesUp, after_note, after_offer, after_settle}
use Rattle.hub_steps.specs.Batches as batches
use Rattle.hub_steps.specs.Down.{MakesDown, MayKeepDown}
use Rattle.hub_steps.specs.Up.{Makes, MayKeep}
use Rattle.hub_slots.specs.Choosing.{Chooses}
use Rattle.hub_slots.specs.Locked.{LockedDown, LockedUp}
use Rattle.hub_places.specs.Numbering.{KeepsDown, KeepsUp}
use Rattle.hub.proofs.NumbersDown as numbers_down
use Rattle.hub.proofs.NumbersUp as numbers_up
use Rattle.hub_delivery.specs.Carrying.{Aimed, Aims, Answered, Carries, HasRoute, IsChosen, Retried, Retries, Served}
use Rattle.hub_delivery.specs.Carrying as carrying
use Rattle.hub_delivery.specs.Leaving.{server_place}
use Rattle.hub_delivery.proofs.Aiming.{chosen_later, is_ticket, put_here, sent_set, with_value}

-- a session that may be kept may be kept behind each step of its own
pub makes_down : (t u : Option KeptDown) (R : down.Past → down.Past → Type 0) → MakesDown t u R → MayKeepDown t → MayKeepDown u
makes_down None u R step kept = subst (λ v. MayKeepDown v) (sym step) tt
makes_down (Some s) None R step kept = absurd step
makes_down (Some s) (Some t) R step kept =
    (subst (λ logs. WereKeptDown logs) (sym step.0) kept.0, reaching_down.still_kept s t R step.1 kept.1)

pub makes_up : (t u : Option Kept) (R : up.Past → up.Past → Type 0) → Makes t u R → MayKeep t → MayKeep u
makes_up None u R step kept = subst (λ v. MayKeep v) (sym step) tt
makes_up (Some s) None R step kept = absurd step
makes_up (Some s) (Some t) R step kept =
    (subst (λ logs. WereKept logs) (sym step.1) kept.0, reaching.still_kept s t R step.2 kept.1)

-- and is still the one of that number
keeps_down : (client : ℕ) (t u : Option KeptDown) (R : down.Past → down.Past → Type 0) → numbers_down.KeepsSession R
    → MakesDown t u R → KeepsDown client t → KeepsDown client u
keeps_down client t u R same step kept =
    (makes_down t u R step kept.0, numbers_down.made_of client t u R same kept.0 kept.1 step)

keeps_up : (server : ℕ) (t u : Option Kept) (R : up.Past → up.Past → Type 0) → numbers_up.KeepsSession R
    → Makes t u R → KeepsUp server t → KeepsUp server u
keeps_up server t u R same step kept =
    (makes_up t u R step kept.0, numbers_up.made_of server t u R same kept.0 kept.1 step)

-- what each kind of step makes of a value of which `P` is true
pub record Follows (now ups : ℕ) (but : Option ℕ) (known learned : List Change) (P : Errand → Type 0) : Type 0 where
  pub notes : (client : ℕ) (placed : Placed) (result : Result (Option Recall) Placed)
      → LockedDown (KeepsDown client) (λ p q. NoteStep p placed result q) (result ≡ Err placed)
      → P (record { to = client; value = value.Placed placed }) → P (after_note result)
  pub settles : (client : ℕ) (x : Settled) (result : Result Answer Settled)
      → LockedDown (KeepsDown client) (λ p q. SettleStep p x result q) (result ≡ Err x)
      → P (record { to = client; value = value.Reply x }) → P (after_settle result)
  pub nacks : (client : ℕ) (ticket : TicketView) (result : Result Answer TicketView)
      → LockedDown (KeepsDown client) (λ p q. NackStep p ticket result q) (result ≡ Err ticket)
      → P (record { to = client; value = value.Unplaced ticket }) → P done
  pub unroutes : (client : ℕ) (ticket : TicketView) (result : Result Answer TicketView)
      → LockedDown (KeepsDown client) (λ p q. UnrouteStep p ticket result q) (result ≡ Err ticket)
      → P (record { to = client; value = value.Unrouted ticket }) → P done
  pub offers : (server : ℕ) (ticket : TicketView) (result : Result Placed (OfferRefusal × TicketView))
      → IsChosen ups but known learned ticket server
      → LockedUp (KeepsUp server) (λ p q. OfferStep p ticket now result q) (result ≡ Err (Closed, ticket))
      → P (record { to = server; value = value.Ticket ticket }) → P (after_offer server result)
  pub recalls : (server : ℕ) (r : Recall) (result : Recalled)
      → LockedUp (KeepsUp server) (λ p q. RecallStep p r now result q) (result ≡ Stale)
      → P (record { to = server; value = value.Recall r }) → P done
  pub turns_back : (to : ℕ) (ticket : TicketView) → HasRoute known learned ticket None
      → P (record { to = to; value = value.Ticket ticket }) → P (back ticket why.Unrouted)
  pub stays_back : (to : ℕ) (ticket : TicketView) (servers : List ℕ) → HasRoute known learned ticket (Some servers)
      → Chooses ups but servers None
      → P (record { to = to; value = value.Ticket ticket }) → P (back ticket why.Unplaced)
  pub aims : (to : ℕ) (ticket : TicketView) (number : ℕ)
      → P (record { to = to; value = value.Ticket ticket }) → P (record { to = number; value = value.Ticket ticket })
  pub tries : (to by : ℕ) (ticket : TicketView) (route : Option (List ℕ)) (made : Errand)
      → HasRoute known learned ticket route → Retries now ups but (server_place ups by) route ticket made
      → P (record { to = to; value = value.Refused by ticket }) → P made

-- a step at one place keeps what is true of the value at another, and of the one there what it makes of that
moved : (P : Errand → Type 0) (xs zs : List Errand) (at i : ℕ) (e f : Errand) → errand_at xs at ≡ e → (e ≡ done → ⊥)
    → zs ≡ slice_set xs at f → (P e → P f) → P (errand_at xs i) → P (errand_at zs i)
moved P xs zs at i e f is never put on p =
    elim (cases_eq i at) [
      | inl same ↦
          subst P (sym (ap (λ k. errand_at zs k) same ∙ ap (λ ys. errand_at ys at) put ∙ put_here xs at e f is never))
          (on (subst P (ap (λ k. errand_at xs k) same ∙ is) p))
      | inr other ↦ subst P (sym (ap (λ ys. errand_at ys i) put ∙ elsewhere xs at i f other)) p
    ]

-- whether there is something to do
is_nothing : Value → Bool
is_nothing value.Nothing = true
is_nothing (value.Ticket ticket) = false
is_nothing (value.Refused by ticket) = false
is_nothing (value.Unplaced ticket) = false
is_nothing (value.Unrouted ticket) = false
is_nothing (value.Placed placed) = false
is_nothing (value.Reply settled) = false
is_nothing (value.Recall recall) = false
is_nothing value.Closing = false

some_thing : (e : Errand) → is_nothing e.value ≡ false → e ≡ done → ⊥
unfolding is_nothing
some_thing e is same =
    absurd (let no : false ≡ true = sym is ∙ ap (λ (x : Errand). is_nothing x.value) same in cc)

-- THE STEPS OF ONE SESSION

answers : (now ups : ℕ) (but : Option ℕ) (known learned : List Change) (P : Errand → Type 0) → Follows now ups but known learned P
    → (i client : ℕ) (s : Option KeptDown) (xs : List Errand) → KeepsDown client s
    → (u : Option KeptDown) (zs : List Errand) → AnswersDown client s xs u zs
    → KeepsDown client u × (P (errand_at xs i) → P (errand_at zs i))
unfolding is_nothing
answers now ups but known learned P w i client s xs kept u zs batches.AnswersDown.none = (kept, λ p. p)
answers now ups but known learned P w i client s xs kept u zs (batches.AnswersDown.note {t} {ys} at placed result here step gone put q) =
    let (kt, on) = answers now ups but known learned P w i client s xs kept t ys q in
    let ku = keeps_down client t u (λ a b. NoteStep a placed result b) (numbers_down.note_same placed result) step kt in (
      ku,
      λ p. moved P ys zs at i _ (after_note result) here (some_thing _ refl) put
          (w.notes client placed result (t, u, step, gone, kt, ku)) (on p),
    )
answers now ups but known learned P w i client s xs kept u zs (batches.AnswersDown.settle {t} {ys} at x result here step gone put q) =
    let (kt, on) = answers now ups but known learned P w i client s xs kept t ys q in
    let ku = keeps_down client t u (λ a b. SettleStep a x result b) (numbers_down.settle_same x result) step kt in (
      ku,
      λ p. moved P ys zs at i _ (after_settle result) here (some_thing _ refl) put
          (w.settles client x result (t, u, step, gone, kt, ku)) (on p),
    )
answers now ups but known learned P w i client s xs kept u zs (batches.AnswersDown.nack {t} {ys} at ticket result here step gone put q) =
    let (kt, on) = answers now ups but known learned P w i client s xs kept t ys q in
    let ku = keeps_down client t u (λ a b. NackStep a ticket result b) (numbers_down.nack_same ticket result) step kt in (
      ku,
      λ p. moved P ys zs at i _ done here (some_thing _ refl) put
          (w.nacks client ticket result (t, u, step, gone, kt, ku)) (on p),
    )
answers now ups but known learned P w i client s xs kept u zs (batches.AnswersDown.unroute {t} {ys} at ticket result here step gone put q) =
    let (kt, on) = answers now ups but known learned P w i client s xs kept t ys q in
    let ku = keeps_down client t u (λ a b. UnrouteStep a ticket result b) (numbers_down.unroute_same ticket result) step kt in (
      ku,
      λ p. moved P ys zs at i _ done here (some_thing _ refl) put
          (w.unroutes client ticket result (t, u, step, gone, kt, ku)) (on p),
    )

-- of which that is true, and which is for a server that was chosen if it is a dispatch to be offered
abbrev IsAimed : (ups : ℕ) → (but : Option ℕ) → (known learned : List Change) → (P : Errand → Type 0) → Errand → Type 0
IsAimed ups but known learned P e =
    P e × ((ticket : TicketView) → ticket_of e.value ≡ Some ticket → IsChosen ups but known learned ticket e.to)

-- what comes of an offer is none
none_after : (server : ℕ) (result : Result Placed (OfferRefusal × TicketView)) → ticket_of (after_offer server result).value ≡ None
none_after server (Ok placed) = refl
none_after server (Err (refusal, ticket)) = refl

no_ticket : (ups : ℕ) (but : Option ℕ) (known learned : List Change) (e : Errand) → ticket_of e.value ≡ None
    → (ticket : TicketView) → ticket_of e.value ≡ Some ticket → IsChosen ups but known learned ticket e.to
no_ticket ups but known learned e none ticket is = absurd (let no : None ≡ Some ticket = sym none ∙ is in cc)

serves : (now ups : ℕ) (but : Option ℕ) (known learned : List Change) (P : Errand → Type 0) → Follows now ups but known learned P
    → (i server : ℕ) (s : Option Kept) (xs : List Errand) → KeepsUp server s
    → (u : Option Kept) (zs : List Errand) → ServesUp now server s xs u zs
    → KeepsUp server u
    × (IsAimed ups but known learned P (errand_at xs i) → IsAimed ups but known learned P (errand_at zs i))
unfolding is_nothing
serves now ups but known learned P w i server s xs kept u zs batches.ServesUp.none = (kept, λ p. p)
serves now ups but known learned P w i server s xs kept u zs (batches.ServesUp.offer {t} {ys} at ticket result here step gone put q) =
    let (kt, on) = serves now ups but known learned P w i server s xs kept t ys q in
    let ku = keeps_up server t u (λ a b. OfferStep a ticket now result b) (numbers_up.offer_same ticket now result) step kt in (
      ku,
      λ p. moved (IsAimed ups but known learned P) ys zs at i _ (after_offer server result) here (some_thing _ refl) put
          (λ h. (
            w.offers server ticket result (h.1 ticket refl) (t, u, step, gone, kt, ku) h.0,
            no_ticket ups but known learned (after_offer server result) (none_after server result),
          )) (on p),
    )
serves now ups but known learned P w i server s xs kept u zs (batches.ServesUp.recall {t} {ys} at r result here step gone put q) =
    let (kt, on) = serves now ups but known learned P w i server s xs kept t ys q in
    let ku = keeps_up server t u (λ a b. RecallStep a r now result b) (numbers_up.recall_same r now result) step kt in (
      ku,
      λ p. moved (IsAimed ups but known learned P) ys zs at i _ done here (some_thing _ refl) put
          (λ h. (w.recalls server r result (t, u, step, gone, kt, ku) h.0, no_ticket ups but known learned done refl)) (on p),
    )

-- THOSE OF ALL

answered : (now ups : ℕ) (but : Option ℕ) (known learned : List Change) (P : Errand → Type 0) → Follows now ups but known learned P
    → (i : ℕ) (xs zs : List Errand) → Answered xs zs → P (errand_at xs i) → P (errand_at zs i)
answered now ups but known learned P w i xs zs carrying.Answered.none p = p
answered now ups but known learned P w i xs zs (carrying.Answered.next {ys} client s t all ks kt q) p =
    (answers now ups but known learned P w i client s ys ks t zs all).1 (answered now ups but known learned P w i xs ys q p)

served : (now ups : ℕ) (but : Option ℕ) (known learned : List Change) (P : Errand → Type 0) → Follows now ups but known learned P
    → (i : ℕ) (xs zs : List Errand) → Served now xs zs
    → IsAimed ups but known learned P (errand_at xs i) → IsAimed ups but known learned P (errand_at zs i)
served now ups but known learned P w i xs zs carrying.Served.none p = p
served now ups but known learned P w i xs zs (carrying.Served.next {ys} server s t all ks kt q) p =
    (serves now ups but known learned P w i server s ys ks t zs all).1 (served now ups but known learned P w i xs ys q p)

aims_one : (now ups : ℕ) (but : Option ℕ) (known learned : List Change) (P : Errand → Type 0) → Follows now ups but known learned P
    → (i at : ℕ) (ticket : TicketView) (ys zs : List Errand) → ticket_at ys at ≡ Some ticket
    → (route : Option (List ℕ)) → HasRoute known learned ticket route → Aims ups but route at ys zs
    → P (errand_at ys i) → P (errand_at zs i)
unfolding is_nothing
aims_one now ups but known learned P w i at ticket ys zs is None route put p =
    let here = with_value (errand_at ys at) (value.Ticket ticket) (is_ticket (errand_at ys at).value ticket is) in
    moved P ys zs at i _ (back ticket why.Unrouted) here (some_thing _ refl)
    (put ∙ ap (λ e. slice_set ys at (give_back why.Unrouted e)) here) (w.turns_back (errand_at ys at).to ticket route) p
aims_one now ups but known learned P w i at ticket ys zs is (Some servers) route (None, choice, put) p =
    let here = with_value (errand_at ys at) (value.Ticket ticket) (is_ticket (errand_at ys at).value ticket is) in
    moved P ys zs at i _ (back ticket why.Unplaced) here (some_thing _ refl)
    (put ∙ ap (λ e. slice_set ys at (give_back why.Unplaced e)) here)
    (w.stays_back (errand_at ys at).to ticket servers route choice) p
aims_one now ups but known learned P w i at ticket ys zs is (Some servers) route (Some place, choice, (number, there, put)) p =
    let here = with_value (errand_at ys at) (value.Ticket ticket) (is_ticket (errand_at ys at).value ticket is) in
    moved P ys zs at i _ (record { to = number; value = value.Ticket ticket }) here (some_thing _ refl)
    (put ∙ sent_set ys at number ∙ ap (λ (e : Errand). slice_set ys at (record e { to = number })) here)
    (w.aims (errand_at ys at).to ticket number) p

aimed_more : (ups : ℕ) (but : Option ℕ) (base : List Change) (xs : List Errand) (later : List Change) (zs : List Errand)
    → Aimed ups but base xs later zs → IsPrefix base later
aimed_more ups but base xs later zs carrying.Aimed.none = prefix_self base
aimed_more ups but base xs later zs (carrying.Aimed.learn {os} more q) =
    prefix_trans base os later (aimed_more ups but base xs os zs q) more
aimed_more ups but base xs later zs (carrying.Aimed.aim {os} {ys} at ticket dst seen here of first then aims q) =
    aimed_more ups but base xs later ys q

aimed : (now ups : ℕ) (but : Option ℕ) (known learned : List Change) (P : Errand → Type 0) → Follows now ups but known learned P
    → (i : ℕ) (base : List Change) (xs : List Errand) → IsPrefix known base → (later : List Change) (zs : List Errand)
    → Aimed ups but base xs later zs → IsPrefix later learned → P (errand_at xs i) → P (errand_at zs i)
aimed now ups but known learned P w i base xs first later zs carrying.Aimed.none last p = p
aimed now ups but known learned P w i base xs first later zs (carrying.Aimed.learn {os} more q) last p =
    aimed now ups but known learned P w i base xs first os zs q (prefix_trans os later learned more last) p
aimed now ups but known learned P w i base xs first later zs (carrying.Aimed.aim {ys = ys} at ticket dst seen here of from then aims q) last p =
    aims_one now ups but known learned P w i at ticket ys zs here (route_in dst seen)
    (dst, seen, of, prefix_trans known base seen first from, prefix_trans seen later learned then last, refl) aims
    (aimed now ups but known learned P w i base xs first later ys q last p)

retried_more : (now ups : ℕ) (but : Option ℕ) (base : List Change) (xs : List Errand) (later : List Change) (zs : List Errand)
    → Retried now ups but base xs later zs → IsPrefix base later
retried_more now ups but base xs later zs carrying.Retried.none = prefix_self base
retried_more now ups but base xs later zs (carrying.Retried.retry {os} {ys = ys} at by ticket made here more by_route put q) =
    prefix_trans base os later (retried_more now ups but base xs os ys q) more

retried : (now ups : ℕ) (but : Option ℕ) (known learned : List Change) (P : Errand → Type 0) → Follows now ups but known learned P
    → (i : ℕ) (base : List Change) (xs : List Errand) → IsPrefix known base → (later : List Change) (zs : List Errand)
    → Retried now ups but base xs later zs → IsPrefix later learned → P (errand_at xs i) → P (errand_at zs i)
unfolding is_nothing
retried now ups but known learned P w i base xs first later zs carrying.Retried.none last p = p
retried now ups but known learned P w i base xs first later zs (carrying.Retried.retry {os} {ys = ys} at by ticket made is more (dst, of, tries) put q) last p =
    let here = with_value (errand_at ys at) (value.Refused by ticket) is in
    let from = prefix_trans known os later (prefix_trans known base os first (retried_more now ups but base xs os ys q)) more in
    moved P ys zs at i _ made here (some_thing _ refl) put
    (w.tries (errand_at ys at).to by ticket (route_in dst later) made (dst, later, of, from, last, refl) tries)
    (retried now ups but known learned P w i base xs first os ys q (prefix_trans os later learned more last) p)

carries_more : (now ups : ℕ) (but : Option ℕ) (known : List Change) (xs : List Errand) (later : List Change) (zs : List Errand)
    → Carries now ups but known xs later zs → IsPrefix known later
carries_more now ups but known xs later zs carrying.Carries.none = prefix_self known
carries_more now ups but known xs later zs (carrying.Carries.answered {ys = ys} a q) = carries_more now ups but known xs later ys q
carries_more now ups but known xs later zs (carrying.Carries.served {ys = ys} chosen a q) = carries_more now ups but known xs later ys q
carries_more now ups but known xs later zs (carrying.Carries.aimed {os} {ys = ys} a q) =
    prefix_trans known os later (carries_more now ups but known xs os ys q) (aimed_more ups but os ys later zs a)
carries_more now ups but known xs later zs (carrying.Carries.retried {os} {ys = ys} a q) =
    prefix_trans known os later (carries_more now ups but known xs os ys q) (retried_more now ups but os ys later zs a)

-- what is true of the value at a place, and stays so at each kind of step, is true in the end
pub carried : (now ups : ℕ) (but : Option ℕ) (known learned : List Change) (P : Errand → Type 0) → Follows now ups but known learned P
    → (i : ℕ) (xs : List Errand) (later : List Change) (zs : List Errand) → Carries now ups but known xs later zs
    → IsPrefix later learned → P (errand_at xs i) → P (errand_at zs i)
carried now ups but known learned P w i xs later zs carrying.Carries.none last p = p
carried now ups but known learned P w i xs later zs (carrying.Carries.answered {ys = ys} a q) last p =
    answered now ups but known learned P w i ys zs a (carried now ups but known learned P w i xs later ys q last p)
carried now ups but known learned P w i xs later zs (carrying.Carries.served {ys = ys} chosen a q) last p =
    (served now ups but known learned P w i ys zs a (
      carried now ups but known learned P w i xs later ys q last p,
      λ ticket is. chosen_later ups but known later learned ticket (errand_at ys i).to last (chosen i ticket is),
    )).0
carried now ups but known learned P w i xs later zs (carrying.Carries.aimed {os} {ys = ys} a q) last p =
    aimed now ups but known learned P w i os ys (carries_more now ups but known xs os ys q) later zs a last
    (carried now ups but known learned P w i xs os ys q (prefix_trans os later learned (aimed_more ups but os ys later zs a) last) p)
carried now ups but known learned P w i xs later zs (carrying.Carries.retried {os} {ys = ys} a q) last p =
    retried now ups but known learned P w i os ys (carries_more now ups but known xs os ys q) later zs a last
    (carried now ups but known learned P w i xs os ys q (prefix_trans os later learned (retried_more now ups but os ys later zs a) last) p)
