-- What of a batch is left once its values were handed to sessions.
use Rattle.std.proofs.Common.{◌≡◌, ◌<◌, ◌≤◌, ◌+◌, ℕ, zero, suc, Bool, true, false, ◌&&◌, List, [], ◌∷◌, length, Option, Some, None, Result, Ok, Err, slice_set, inl, inr, refl, sym, ap, ◌∙◌, arith}
use Rattle.std.specs.List.{list_all}
use Rattle.std.proofs.lemmas.Bool.{cases_eq, cases_lt}
use Rattle.server_session.specs.declared.answers.Answer.{Answer}
use Rattle.server_session.specs.declared.answers.Answer.TheVariants.{Again, Answered, Late}
use Rattle.translate_book.specs.Values.{TicketView}
use Rattle.translate_book.specs.declared.placed.Placed.{Placed}
use Rattle.translate_book.specs.declared.recall.Recall.{Recall}
use Rattle.translate_book.specs.declared.refusal.OfferRefusal.{OfferRefusal}
use Rattle.translate_book.specs.declared.sent.Settled.{Settled}
use Rattle.hub_base.specs.Batching.{Batched}
use Rattle.hub_base.specs.Errands.{client_of, done, errand_at, is_nothing, server_of}
use Rattle.hub_base.specs.declared.errands.Errand.{Errand}
use Rattle.hub_base.specs.declared.errands.Value.{Value}
use Rattle.hub_base.specs.declared.errands.Value.TheVariants as value
use Rattle.hub_base.proofs.Places.{elsewhere, put_over}
use Rattle.kept_session.specs.ReachedDown.{KeptDown}
use Rattle.kept_session.specs.Reached.{Kept}
use Rattle.hub_steps.specs.Batches.{AnswersDown, ServesUp, after_note, after_offer, after_settle}
use Rattle.hub_steps.specs.Batches as batches
use Rattle.hub_steps.proofs.Handing.{gone_all}
use Rattle.hub_delivery.specs.Leaving.{LessThan, NoMore, NoneAt, offer_of, refused_of, reply_of}

-- what stands at the place to which something was put
pub at_put : (of : ℕ → Value → Option ℕ) (xs : List Errand) (at n : ℕ) (e : Errand) → of 0 value.Nothing ≡ None
    → of (errand_at (slice_set xs at e) at).to (errand_at (slice_set xs at e) at).value ≡ Some n
    → of e.to e.value ≡ Some n
at_put of [] at n e nothing found = absurd (let no : None ≡ Some n = sym nothing ∙ found in cc)
at_put of (x ∷ xs) zero n e nothing found = found
at_put of (x ∷ xs) (suc at) n e nothing found = at_put of xs at n e nothing found

-- something was put in the place of a value that was for the same session
pub put_less : (of : ℕ → Value → Option ℕ) (xs zs : List Errand) (at : ℕ) (e : Errand) → of 0 value.Nothing ≡ None
    → zs ≡ slice_set xs at e
    → ((n : ℕ) → of e.to e.value ≡ Some n → of (errand_at xs at).to (errand_at xs at).value ≡ Some n) → NoMore of xs zs
put_less of xs zs at e nothing put less i n found =
    elim (cases_eq i at) [
      | inl same ↦
          (ap (λ k. of (errand_at xs k).to (errand_at xs k).value) same
          ∙ less n (at_put of xs at n e nothing
          (ap (λ ys. of (errand_at ys at).to (errand_at ys at).value) (sym put)
          ∙ ap (λ k. of (errand_at zs k).to (errand_at zs k).value) (sym same) ∙ found)))
      | inr other ↦
          ap (λ (x : Errand). of x.to x.value) (sym (ap (λ ys. errand_at ys i) put ∙ elsewhere xs at i e other)) ∙ found
    ]

-- a value for none was put
pub put_none : (of : ℕ → Value → Option ℕ) (xs zs : List Errand) (at : ℕ) (e : Errand) → of 0 value.Nothing ≡ None
    → zs ≡ slice_set xs at e → of e.to e.value ≡ None → NoMore of xs zs
put_none of xs zs at e nothing put none =
    put_less of xs zs at e nothing put (λ n found. absurd (let no : None ≡ Some n = sym none ∙ found in cc))

-- what a session towards a client was handed left no more of a kind, if no note and no reply gives it
pub fewer_down : (of : ℕ → Value → Option ℕ) → of 0 value.Nothing ≡ None
    → (client : ℕ) (s : Option KeptDown) (xs : List Errand)
    → ((r : Result (Option Recall) Placed) → of (after_note r).to (after_note r).value ≡ None)
    → ((t : Option KeptDown) (ys : List Errand) (at : ℕ) (settled : Settled) → AnswersDown client s xs t ys
    → errand_at ys at ≡ record { to = client; value = value.Reply settled }
    → (r : Result Answer Settled) → of (after_settle r).to (after_settle r).value ≡ None)
    → (u : Option KeptDown) (zs : List Errand) → AnswersDown client s xs u zs → NoMore of xs zs
fewer_down of nothing client s xs noted settles u zs batches.AnswersDown.none i n found = found
fewer_down of nothing client s xs noted settles u zs (batches.AnswersDown.note {t} {ys} at placed result here step gone put q) i n found =
    fewer_down of nothing client s xs noted settles t ys q i n (put_none of ys zs at _ nothing put (noted result) i n found)
fewer_down of nothing client s xs noted settles u zs (batches.AnswersDown.settle {t} {ys} at settled result here step gone put q) i n found =
    fewer_down of nothing client s xs noted settles t ys q i n
    (put_none of ys zs at _ nothing put (settles t ys at settled q here result) i n found)
fewer_down of nothing client s xs noted settles u zs (batches.AnswersDown.nack {t} {ys} at ticket result here step gone put q) i n found =
    fewer_down of nothing client s xs noted settles t ys q i n (put_none of ys zs at _ nothing put nothing i n found)
fewer_down of nothing client s xs noted settles u zs (batches.AnswersDown.unroute {t} {ys} at ticket result here step gone put q) i n found =
    fewer_down of nothing client s xs noted settles t ys q i n (put_none of ys zs at _ nothing put nothing i n found)

-- the same of a session towards a server, if no offer gives it
pub fewer_up : (of : ℕ → Value → Option ℕ) → of 0 value.Nothing ≡ None
    → (now server : ℕ) (s : Option Kept) (xs : List Errand)
    → ((t : Option Kept) (ys : List Errand) (at : ℕ) (ticket : TicketView) → ServesUp now server s xs t ys
    → errand_at ys at ≡ record { to = server; value = value.Ticket ticket }
    → (r : Result Placed (OfferRefusal × TicketView)) → of (after_offer server r).to (after_offer server r).value ≡ None)
    → (u : Option Kept) (zs : List Errand) → ServesUp now server s xs u zs → NoMore of xs zs
fewer_up of nothing now server s xs offers u zs batches.ServesUp.none i n found = found
fewer_up of nothing now server s xs offers u zs (batches.ServesUp.offer {t} {ys} at ticket result here step gone put q) i n found =
    fewer_up of nothing now server s xs offers t ys q i n
    (put_none of ys zs at _ nothing put (offers t ys at ticket q here result) i n found)
fewer_up of nothing now server s xs offers u zs (batches.ServesUp.recall {t} {ys} at r result here step gone put q) i n found =
    fewer_up of nothing now server s xs offers t ys q i n (put_none of ys zs at _ nothing put nothing i n found)

-- what comes of a note, of a reply, and of an offer
noted_client : (r : Result (Option Recall) Placed) → client_of (after_note r).to (after_note r).value ≡ None
noted_client (Ok (Some recall)) = refl
noted_client (Ok None) = refl
noted_client (Err placed) = refl

noted_reply : (r : Result (Option Recall) Placed) → reply_of (after_note r).to (after_note r).value ≡ None
noted_reply (Ok (Some recall)) = refl
noted_reply (Ok None) = refl
noted_reply (Err placed) = refl

noted_offer : (r : Result (Option Recall) Placed) → offer_of (after_note r).to (after_note r).value ≡ None
noted_offer (Ok (Some recall)) = refl
noted_offer (Ok None) = refl
noted_offer (Err placed) = refl

settled_client : (r : Result Answer Settled) → client_of (after_settle r).to (after_settle r).value ≡ None
settled_client (Ok (Again ticket)) = refl
settled_client (Ok Answered) = refl
settled_client (Ok Late) = refl
settled_client (Err settled) = refl

settled_reply : (r : Result Answer Settled) → reply_of (after_settle r).to (after_settle r).value ≡ None
settled_reply (Ok (Again ticket)) = refl
settled_reply (Ok Answered) = refl
settled_reply (Ok Late) = refl
settled_reply (Err settled) = refl

offered_server : (server : ℕ) (r : Result Placed (OfferRefusal × TicketView))
    → server_of (after_offer server r).to (after_offer server r).value ≡ None
offered_server server (Ok placed) = refl
offered_server server (Err (refusal, ticket)) = refl

offered_reply : (server : ℕ) (r : Result Placed (OfferRefusal × TicketView))
    → reply_of (after_offer server r).to (after_offer server r).value ≡ None
offered_reply server (Ok placed) = refl
offered_reply server (Err (refusal, ticket)) = refl

offered_offer : (server : ℕ) (r : Result Placed (OfferRefusal × TicketView))
    → offer_of (after_offer server r).to (after_offer server r).value ≡ None
offered_offer server (Ok placed) = refl
offered_offer server (Err (refusal, ticket)) = refl

pub down_clients : (client : ℕ) (s : Option KeptDown) (xs : List Errand) (u : Option KeptDown) (zs : List Errand)
    → AnswersDown client s xs u zs → NoMore client_of xs zs
down_clients client s xs = fewer_down client_of refl client s xs noted_client (λ t ys at settled q here. settled_client)

pub down_replies : (client : ℕ) (s : Option KeptDown) (xs : List Errand) (u : Option KeptDown) (zs : List Errand)
    → AnswersDown client s xs u zs → NoMore reply_of xs zs
down_replies client s xs = fewer_down reply_of refl client s xs noted_reply (λ t ys at settled q here. settled_reply)

-- no dispatch is to be sent again where no reply was for the client
pub down_offers : (client : ℕ) (s : Option KeptDown) (xs : List Errand) (u : Option KeptDown) (zs : List Errand)
    → AnswersDown client s xs u zs
    → ((i : ℕ) → reply_of (errand_at xs i).to (errand_at xs i).value ≡ Some client → ⊥) → NoMore offer_of xs zs
down_offers client s xs u zs q none =
    fewer_down offer_of refl client s xs noted_offer
    (λ t ys at settled p here r. absurd (none at (down_replies client s xs t ys p at client
    (ap (λ (e : Errand). reply_of e.to e.value) here))))
    u zs q

noted_refused : (r : Result (Option Recall) Placed) → refused_of (after_note r).to (after_note r).value ≡ None
noted_refused (Ok (Some recall)) = refl
noted_refused (Ok None) = refl
noted_refused (Err placed) = refl

settled_refused : (r : Result Answer Settled) → refused_of (after_settle r).to (after_settle r).value ≡ None
settled_refused (Ok (Again ticket)) = refl
settled_refused (Ok Answered) = refl
settled_refused (Ok Late) = refl
settled_refused (Err settled) = refl

pub down_refused : (client : ℕ) (s : Option KeptDown) (xs : List Errand) (u : Option KeptDown) (zs : List Errand)
    → AnswersDown client s xs u zs → NoMore refused_of xs zs
down_refused client s xs = fewer_down refused_of refl client s xs noted_refused (λ t ys at settled q here. settled_refused)

pub up_servers : (now server : ℕ) (s : Option Kept) (xs : List Errand) (u : Option Kept) (zs : List Errand)
    → ServesUp now server s xs u zs → NoMore server_of xs zs
up_servers now server s xs = fewer_up server_of refl now server s xs (λ t ys at ticket q here. offered_server server)

pub up_replies : (now server : ℕ) (s : Option Kept) (xs : List Errand) (u : Option Kept) (zs : List Errand)
    → ServesUp now server s xs u zs → NoMore reply_of xs zs
up_replies now server s xs = fewer_up reply_of refl now server s xs (λ t ys at ticket q here. offered_reply server)

pub up_offers : (now server : ℕ) (s : Option Kept) (xs : List Errand) (u : Option Kept) (zs : List Errand)
    → ServesUp now server s xs u zs → NoMore offer_of xs zs
up_offers now server s xs = fewer_up offer_of refl now server s xs (λ t ys at ticket q here. offered_offer server)

-- no place is to be noted where no dispatch was to be offered to the server
pub up_clients : (now server : ℕ) (s : Option Kept) (xs : List Errand) (u : Option Kept) (zs : List Errand)
    → ServesUp now server s xs u zs
    → ((i : ℕ) → offer_of (errand_at xs i).to (errand_at xs i).value ≡ Some server → ⊥) → NoMore client_of xs zs
up_clients now server s xs u zs q none =
    fewer_up client_of refl now server s xs
    (λ t ys at ticket p here r. absurd (none at (up_offers now server s xs t ys p at server
    (ap (λ (e : Errand). offer_of e.to e.value) here))))
    u zs q

-- no server refuses a dispatch where none was to be offered to it
pub up_refused : (now server : ℕ) (s : Option Kept) (xs : List Errand) (u : Option Kept) (zs : List Errand)
    → ServesUp now server s xs u zs
    → ((i : ℕ) → offer_of (errand_at xs i).to (errand_at xs i).value ≡ Some server → ⊥) → NoMore refused_of xs zs
up_refused now server s xs u zs q none =
    fewer_up refused_of refl now server s xs
    (λ t ys at ticket p here r. absurd (none at (up_offers now server s xs t ys p at server
    (ap (λ (e : Errand). offer_of e.to e.value) here))))
    u zs q

-- the session to which the value at a place went has none there, and no other got one
pub gone_here : (of : ℕ → Value → Option ℕ) (Has : ℕ → Type 0) (xs zs : List Errand) (at who : ℕ) → NoMore of xs zs
    → of (errand_at xs at).to (errand_at xs at).value ≡ Some who
    → (of (errand_at zs at).to (errand_at zs at).value ≡ Some who → ⊥) → NoneAt of Has zs at
gone_here of Has xs zs at who fewer is gone n found has = gone (found ∙ sym (fewer at n found) ∙ is)

-- one place more has no value for a session that there is
pub gone_next : (of : ℕ → Value → Option ℕ) (Has : ℕ → Type 0) (xs zs : List Errand) (at : ℕ)
    → ((i : ℕ) → i < at → NoneAt of Has xs i) → NoMore of xs zs → NoneAt of Has zs at
    → (i : ℕ) → i < at + 1 → NoneAt of Has zs i
gone_next of Has xs zs at before fewer here i within n found =
    elim (cases_lt i at) [
      | inl less ↦ before i less n (fewer i n found)
      | inr more ↦
          (let same : i ≡ at = omega (arith, within, more) in
          here n (ap (λ k. of (errand_at zs k).to (errand_at zs k).value) (sym same) ∙ found))
    ]

-- and once all places were looked at none has one
pub gone_from_all : (of : ℕ → Value → Option ℕ) (Has : ℕ → Type 0) (zs : List Errand) (at : ℕ)
    → of 0 value.Nothing ≡ None → length zs ≤ at → ((i : ℕ) → i < at → NoneAt of Has zs i) → (i : ℕ) → NoneAt of Has zs i
gone_from_all of Has zs at none end before i n found has =
    gone_all of zs at n none end (λ j less is. before j less n is has) i found

-- none stays none
pub none_since : (of : ℕ → Value → Option ℕ) (Has : ℕ → Type 0) (xs zs : List Errand) → NoMore of xs zs
    → ((i : ℕ) → NoneAt of Has xs i) → (i : ℕ) → NoneAt of Has zs i
none_since of Has xs zs fewer none i n found = none i n (fewer i n found)

pub no_more_since : (of : ℕ → Value → Option ℕ) (xs ys zs : List Errand) → NoMore of xs ys → NoMore of ys zs → NoMore of xs zs
no_more_since of xs ys zs p q i n found = p i n (q i n found)

-- a reply goes to a client, and a dispatch to be offered to a server
reply_goes : (to : ℕ) (v : Value) (n : ℕ) → reply_of to v ≡ Some n → client_of to v ≡ Some n
reply_goes to (value.Reply settled) n found = found
reply_goes to value.Nothing n found = absurd (cc)
reply_goes to (value.Ticket ticket) n found = absurd (cc)
reply_goes to (value.Refused by ticket) n found = absurd (cc)
reply_goes to (value.Unplaced ticket) n found = absurd (cc)
reply_goes to (value.Unrouted ticket) n found = absurd (cc)
reply_goes to (value.Placed placed) n found = absurd (cc)
reply_goes to (value.Recall recall) n found = absurd (cc)
reply_goes to value.Closing n found = absurd (cc)

offer_goes : (to : ℕ) (v : Value) (n : ℕ) → offer_of to v ≡ Some n → server_of to v ≡ Some n
offer_goes to (value.Ticket ticket) n found = found
offer_goes to value.Nothing n found = absurd (cc)
offer_goes to (value.Reply settled) n found = absurd (cc)
offer_goes to (value.Refused by ticket) n found = absurd (cc)
offer_goes to (value.Unplaced ticket) n found = absurd (cc)
offer_goes to (value.Unrouted ticket) n found = absurd (cc)
offer_goes to (value.Placed placed) n found = absurd (cc)
offer_goes to (value.Recall recall) n found = absurd (cc)
offer_goes to value.Closing n found = absurd (cc)

pub no_reply : (Has : ℕ → Type 0) (xs : List Errand) → ((i : ℕ) → NoneAt client_of Has xs i) → (i : ℕ) → NoneAt reply_of Has xs i
no_reply Has xs none i n found = none i n (reply_goes (errand_at xs i).to (errand_at xs i).value n found)

pub no_offer : (Has : ℕ → Type 0) (xs : List Errand) → ((i : ℕ) → NoneAt server_of Has xs i) → (i : ℕ) → NoneAt offer_of Has xs i
no_offer Has xs none i n found = none i n (offer_goes (errand_at xs i).to (errand_at xs i).value n found)

-- what was made of a value is put in its place
pub put_made : (xs taken zs : List Errand) (at : ℕ) (e made : Errand) → e ≡ errand_at xs at → taken ≡ slice_set xs at done
    → zs ≡ slice_set taken at made → LessThan e made → NoMore reply_of xs zs × NoMore offer_of xs zs
put_made xs taken zs at e made is took put less =
    let over : zs ≡ slice_set xs at made = put_over xs taken zs at made made took put refl in (
      put_less reply_of xs zs at made refl over (λ n found. ap (λ (x : Errand). reply_of x.to x.value) (sym is) ∙ less.0 n found),
      put_less offer_of xs zs at made refl over (λ n found. ap (λ (x : Errand). offer_of x.to x.value) (sym is) ∙ less.1 n found),
    )

-- of the values as the batch has them
pub same_before : (of : ℕ → Value → Option ℕ) (a b : Batched) → a ≡ b → (zs : List Errand) → NoMore of a.errands zs
    → NoMore of b.errands zs
same_before of a b is zs fewer i n found =
    ap (λ (d : Batched). of (errand_at d.errands i).to (errand_at d.errands i).value) (sym is) ∙ fewer i n found

-- and as it has them then
pub same_after : (of : ℕ → Value → Option ℕ) (xs : List Errand) (a b : Batched) → b ≡ a → NoMore of xs a.errands
    → NoMore of xs b.errands
same_after of xs a b is fewer i n found =
    fewer i n (ap (λ (d : Batched). of (errand_at d.errands i).to (errand_at d.errands i).value) (sym is) ∙ found)

-- where nothing is left to be done nothing is for anybody
both_true : (a b : Bool) → a && b ≡ true → (a ≡ true) × (b ≡ true)
both_true true b all = (refl, all)
both_true false b all = absurd (let no : false ≡ true = all in cc)

nothing_at : (xs : List Errand) (i : ℕ) → list_all (λ (e : Errand). is_nothing e.value) xs ≡ true
    → is_nothing (errand_at xs i).value ≡ true
nothing_at [] i all = refl
nothing_at (x ∷ xs) zero all = (both_true (is_nothing x.value) _ all).0
nothing_at (x ∷ xs) (suc i) all = nothing_at xs i (both_true (is_nothing x.value) _ all).1

nothing_for : (of : ℕ → Value → Option ℕ) → ((to : ℕ) → of to value.Nothing ≡ None) → (to n : ℕ) (v : Value)
    → is_nothing v ≡ true → of to v ≡ Some n → ⊥
nothing_for of nothing to n value.Nothing is found = absurd (let no : None ≡ Some n = sym (nothing to) ∙ found in cc)
nothing_for of nothing to n (value.Ticket t) is found = absurd (let no : false ≡ true = is in cc)
nothing_for of nothing to n (value.Refused by t) is found = absurd (let no : false ≡ true = is in cc)
nothing_for of nothing to n (value.Unplaced t) is found = absurd (let no : false ≡ true = is in cc)
nothing_for of nothing to n (value.Unrouted t) is found = absurd (let no : false ≡ true = is in cc)
nothing_for of nothing to n (value.Placed p) is found = absurd (let no : false ≡ true = is in cc)
nothing_for of nothing to n (value.Reply s) is found = absurd (let no : false ≡ true = is in cc)
nothing_for of nothing to n (value.Recall r) is found = absurd (let no : false ≡ true = is in cc)
nothing_for of nothing to n value.Closing is found = absurd (let no : false ≡ true = is in cc)

pub none_left_for : (of : ℕ → Value → Option ℕ) (Has : ℕ → Type 0) (xs : List Errand) → ((to : ℕ) → of to value.Nothing ≡ None)
    → list_all (λ (e : Errand). is_nothing e.value) xs ≡ true → (i : ℕ) → NoneAt of Has xs i
none_left_for of Has xs nothing all i n found has =
    nothing_for of nothing (errand_at xs i).to n (errand_at xs i).value (nothing_at xs i all) found
