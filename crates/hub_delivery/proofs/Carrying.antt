-- What is done with the values of a batch, step by step.
use Rattle.std.proofs.Common.{◌≡◌, ◌<◌, ◌≤◌, ◌+◌, ℕ, zero, suc, true, false, List, [], ◌∷◌, ◌++◌, length, drop, Option, Some, None, Result, Ok, Err, OnOk, OnErr, get_or, slice_get, slice_index, slice_set, add-one, refl, sym, ap, ◌∙◌, subst}
use Rattle.std.proofs.Math.Seq.{drop-cons}
use Rattle.std.proofs.lemmas.List.{drop_all, get_or-map}
use Rattle.std.proofs.lemmas.Slice.Eq.{bytes_eq-Decides}
use Rattle.arrayvec.specs.ArrayVec.{ArrayVec}
use mathlib.Core.List.{IsPrefix}
use Rattle.mux_message.specs.Parts.{dst_of}
use Rattle.route_table.specs.Routes.{Change}
use Rattle.published_routes.specs.Orders.{route_in}
use Rattle.published_routes.proofs.Prefixes.{prefix_self, prefix_trans}
use Rattle.translate_book.specs.Values.{TicketView}
use Rattle.translate_book.specs.declared.placed.Placed.{Placed}
use Rattle.translate_book.specs.declared.refusal.OfferRefusal.{OfferRefusal}
use Rattle.balancer.specs.Order.{servers_in}
use Rattle.hub_base.specs.Errands.{dst_at, dst_in, errand_at, give_back, give_back_value, goes_with, is_refused, is_same_dst, send_at, send_in, ticket_at, ticket_of}
use Rattle.hub_base.specs.declared.errands.Back.{Back}
use Rattle.hub_base.specs.declared.errands.Back.TheVariants as why
use Rattle.hub_base.specs.declared.errands.Errand.{Errand}
use Rattle.hub_base.specs.declared.errands.Value.{Value}
use Rattle.hub_base.specs.declared.errands.Value.TheVariants as value
use Rattle.hub_slots.specs.Choosing.{Chooses, HasLoad}
use Rattle.hub_delivery.specs.Carrying.{Aimed, Aims, AimsAt, AreOthers, IsOther, OfferedTo, Offers, Retries, RetriesBy, after_others}
use Rattle.hub_delivery.specs.Carrying as carrying
use Rattle.hub_delivery.specs.Leaving.{NoMore, NoneRefused, refused_of, reply_of, server_place}
use Rattle.hub_delivery.proofs.Leaving.{at_put, put_none}

-- a server that was chosen has a slot
pub chosen_there : (slots : ℕ) (but : Option ℕ) (servers : List ℕ) (place : ℕ) → Chooses slots but servers (Some place) → place < slots
chosen_there slots but servers place (read, None, are, is, same) = absurd (let no : Some place ≡ None = same in cc)
chosen_there slots but servers place (read, Some (server, load), are, (at, there, least), same) =
    let may = are at least.0 in
    let shown = may.1 (λ left. absurd (let no : None ≡ Some load = sym (may.0 left) ∙ least.1 in cc)) in
    let has : slice_index servers at < slots = subst (λ r. HasLoad slots (slice_index servers at) r) least.1 shown in
    let chosen : place ≡ server = cc same in
    subst (λ n. n < slots) (there ∙ sym chosen) has

pub aims_chosen : (slots n : ℕ) (but : Option ℕ) (route : Option (List ℕ)) (servers : List ℕ) (chosen : Option ℕ) (place number at : ℕ)
    (ys xs zs : List Errand) → route ≡ Some servers → n ≡ slots → Chooses n but servers chosen → chosen ≡ Some place
    → (place < slots → server_place slots number ≡ Some place) → ys ≡ xs → zs ≡ send_at ys at number → Aims slots but route at xs zs
aims_chosen slots n but route servers chosen place number at ys xs zs found all chooses is there same put =
    let choice : Chooses slots but servers (Some place) =
    subst (λ k. Chooses k but servers (Some place)) all (subst (λ x. Chooses n but servers x) is chooses) in
    subst (λ r. Aims slots but r at xs zs) (sym found)
    (Some place, choice, (number, there (chosen_there slots but servers place choice), put ∙ ap (λ es. send_at es at number) same))

-- one candidate more
pub others_more : (servers : List ℕ) (but by : Option ℕ) (xs : List (ℕ × ℕ)) (x : ℕ × ℕ) → AreOthers servers but by xs
    → IsOther servers but by x.0 → AreOthers servers but by (xs ++ x ∷ [])
others_more servers but by [] x all is = (is, tt)
others_more servers but by (y ∷ ys) x all is = (all.0, others_more servers but by ys x all.1 is)

pub others_pushed : {E : Type 0} (servers : List ℕ) (but by : Option ℕ) (v w : ArrayVec (ℕ × ℕ)) (x : ℕ × ℕ) (result : Result (Unit {0}) E)
    → OnOk result (w.items ≡ v.items ++ x ∷ []) → OnErr result (w ≡ v) → AreOthers servers but by v.items
    → IsOther servers but by x.0 → AreOthers servers but by w.items
others_pushed servers but by v w x (Ok done) ok err all is =
    subst (AreOthers servers but by) (sym ok) (others_more servers but by v.items x all is)
others_pushed servers but by v w x (Err fault) ok err all is = subst (λ (u : ArrayVec (ℕ × ℕ)). AreOthers servers but by u.items) (sym err) all

-- the next candidate, and those after it
next_candidate : (candidates : List (ℕ × ℕ)) (order : List ℕ) (i : ℕ) → i < length order → slice_index order i < length candidates
    → servers_in candidates (drop i order)
    ≡ (get_or candidates (slice_index order i) (0, 0)).0 ∷ servers_in candidates (drop (i + 1) order)
next_candidate candidates order i within there =
    let here : drop i order ≡ slice_index order i ∷ drop (i + 1) order = rw add-one (drop-cons order i 0 within) in
    ap (servers_in candidates) here
    ∙ ap (λ s. s ∷ servers_in candidates (drop (i + 1) order)) (get_or-map (λ (c : ℕ × ℕ). c.0) candidates (slice_index order i) (0, 0) 0 there)

-- what comes of the offers from a place on: the first is taken, or it is refused, or none is left
pub offered_taken : (now slots : ℕ) (ticket : TicketView) (candidates : List (ℕ × ℕ)) (order : List ℕ) (i : ℕ) (placed : Placed)
    → i < length order → slice_index order i < length candidates
    → Offers now slots (get_or candidates (slice_index order i) (0, 0)).0 ticket (Ok placed)
    → OfferedTo now slots ticket (servers_in candidates (drop i order)) (Ok placed)
offered_taken now slots ticket candidates order i placed within there offer =
    subst (λ places. OfferedTo now slots ticket places (Ok placed)) (sym (next_candidate candidates order i within there))
    (carrying.OfferedTo.taken _ placed offer)

pub offered_next : (now slots : ℕ) (ticket back : TicketView) (candidates : List (ℕ × ℕ)) (order : List ℕ) (i : ℕ) (refusal : OfferRefusal)
    (result : Result Placed TicketView) → i < length order → slice_index order i < length candidates → back ≡ ticket
    → Offers now slots (get_or candidates (slice_index order i) (0, 0)).0 ticket (Err (refusal, back))
    → OfferedTo now slots back (servers_in candidates (drop (i + 1) order)) result
    → OfferedTo now slots ticket (servers_in candidates (drop i order)) result
offered_next now slots ticket back candidates order i refusal result within there same offer others =
    subst (λ places. OfferedTo now slots ticket places result) (sym (next_candidate candidates order i within there))
    (carrying.OfferedTo.next _ refusal
    (subst (λ t. Offers now slots (get_or candidates (slice_index order i) (0, 0)).0 ticket (Err (refusal, t))) same offer)
    (subst (λ t. OfferedTo now slots t (servers_in candidates (drop (i + 1) order)) result) same others))

pub offered_none : (now slots : ℕ) (ticket : TicketView) (candidates : List (ℕ × ℕ)) (order : List ℕ) (i : ℕ) → length order ≤ i
    → OfferedTo now slots ticket (servers_in candidates (drop i order)) (Err ticket)
offered_none now slots ticket candidates order i end =
    subst (λ places. OfferedTo now slots ticket (servers_in candidates places) (Err ticket)) (sym (drop_all i order end))
    carrying.OfferedTo.none

-- a dispatch that went back is none to be offered
no_dst_back : (word : Back) (to : ℕ) (v : Value) (ticket : TicketView) (dst : List ℕ) → ticket_of v ≡ Some ticket
    → dst_in (ticket_of (give_back_value word to v).value) ≡ Some dst → ⊥
no_dst_back why.Unplaced to (value.Ticket t) ticket dst is found = absurd (let no : None ≡ Some dst = found in cc)
no_dst_back why.Unrouted to (value.Ticket t) ticket dst is found = absurd (let no : None ≡ Some dst = found in cc)
no_dst_back word to value.Nothing ticket dst is found = absurd (let no : None ≡ Some ticket = is in cc)
no_dst_back word to (value.Refused by t) ticket dst is found = absurd (let no : None ≡ Some ticket = is in cc)
no_dst_back word to (value.Unplaced t) ticket dst is found = absurd (let no : None ≡ Some ticket = is in cc)
no_dst_back word to (value.Unrouted t) ticket dst is found = absurd (let no : None ≡ Some ticket = is in cc)
no_dst_back word to (value.Placed p) ticket dst is found = absurd (let no : None ≡ Some ticket = is in cc)
no_dst_back word to (value.Reply s) ticket dst is found = absurd (let no : None ≡ Some ticket = is in cc)
no_dst_back word to (value.Recall r) ticket dst is found = absurd (let no : None ≡ Some ticket = is in cc)
no_dst_back word to value.Closing ticket dst is found = absurd (let no : None ≡ Some ticket = is in cc)

no_dst : (word : Back) (xs : List Errand) (at : ℕ) (ticket : TicketView) (dst : List ℕ) → ticket_at xs at ≡ Some ticket
    → dst_at (slice_set xs at (give_back word (errand_at xs at))) at ≡ Some dst → ⊥
no_dst word [] at ticket dst is found = absurd (let no : None ≡ Some ticket = is in cc)
no_dst word (x ∷ xs) zero ticket dst is found = no_dst_back word x.to x.value ticket dst is found
no_dst word (x ∷ xs) (suc at) ticket dst is found = no_dst word xs at ticket dst is found

-- one that was sent is the same
pub send_behind : (x : Errand) (xs : List Errand) (at n : ℕ) (e : Option Errand) → send_in (x ∷ xs) (suc at) n e ≡ x ∷ send_in xs at n e
send_behind x xs at n None = refl
send_behind x xs at n (Some e) = refl

dst_sent : (xs : List Errand) (at n : ℕ) → dst_at (send_at xs at n) at ≡ dst_at xs at
dst_sent [] at n = refl
dst_sent (x ∷ xs) zero n = refl
dst_sent (x ∷ xs) (suc at) n = ap (λ ys. dst_at ys (suc at)) (send_behind x xs at n (slice_get xs at)) ∙ dst_sent xs at n

dst_aimed_at : (slots : ℕ) (chosen : Option ℕ) (at : ℕ) (xs zs : List Errand) (ticket : TicketView) (dst : List ℕ)
    → AimsAt slots chosen at xs zs → ticket_at xs at ≡ Some ticket → dst_at zs at ≡ Some dst → dst_at xs at ≡ Some dst
dst_aimed_at slots None at xs zs ticket dst aims is found =
    absurd (no_dst why.Unplaced xs at ticket dst is (ap (λ ys. dst_at ys at) (sym aims) ∙ found))
dst_aimed_at slots (Some place) at xs zs ticket dst (number, there, aims) is found =
    sym (dst_sent xs at number) ∙ ap (λ ys. dst_at ys at) (sym aims) ∙ found

dst_aimed : (slots : ℕ) (but : Option ℕ) (route : Option (List ℕ)) (at : ℕ) (xs zs : List Errand) (ticket : TicketView)
    (dst : List ℕ) → Aims slots but route at xs zs → ticket_at xs at ≡ Some ticket → dst_at zs at ≡ Some dst
    → dst_at xs at ≡ Some dst
dst_aimed slots but None at xs zs ticket dst aims is found =
    absurd (no_dst why.Unrouted xs at ticket dst is (ap (λ ys. dst_at ys at) (sym aims) ∙ found))
dst_aimed slots but (Some servers) at xs zs ticket dst (chosen, choice, aims) is found =
    dst_aimed_at slots chosen at xs zs ticket dst aims is found

-- a dispatch that is aimed is no reply
no_reply_value : (to m : ℕ) (v : Value) (ticket : TicketView) → ticket_of v ≡ Some ticket → reply_of to v ≡ Some m → ⊥
no_reply_value to m (value.Ticket t) ticket is found = absurd (let no : None ≡ Some m = found in cc)
no_reply_value to m (value.Reply s) ticket is found = absurd (let no : None ≡ Some ticket = is in cc)
no_reply_value to m value.Nothing ticket is found = absurd (let no : None ≡ Some ticket = is in cc)
no_reply_value to m (value.Refused by t) ticket is found = absurd (let no : None ≡ Some ticket = is in cc)
no_reply_value to m (value.Unplaced t) ticket is found = absurd (let no : None ≡ Some ticket = is in cc)
no_reply_value to m (value.Unrouted t) ticket is found = absurd (let no : None ≡ Some ticket = is in cc)
no_reply_value to m (value.Placed p) ticket is found = absurd (let no : None ≡ Some ticket = is in cc)
no_reply_value to m (value.Recall r) ticket is found = absurd (let no : None ≡ Some ticket = is in cc)
no_reply_value to m value.Closing ticket is found = absurd (let no : None ≡ Some ticket = is in cc)

sent_replies : (xs : List Errand) (at n : ℕ) (ticket : TicketView) → ticket_at xs at ≡ Some ticket → NoMore reply_of xs (send_at xs at n)
sent_replies [] at n ticket is i m found = found
sent_replies (x ∷ xs) zero n ticket is zero m found = absurd (no_reply_value n m x.value ticket is found)
sent_replies (x ∷ xs) zero n ticket is (suc i) m found = found
sent_replies (x ∷ xs) (suc at) n ticket is zero m found =
    ap (λ ys. reply_of (errand_at ys zero).to (errand_at ys zero).value) (sym (send_behind x xs at n (slice_get xs at))) ∙ found
sent_replies (x ∷ xs) (suc at) n ticket is (suc i) m found =
    sent_replies xs at n ticket is i m
    (ap (λ ys. reply_of (errand_at ys (suc i)).to (errand_at ys (suc i)).value) (sym (send_behind x xs at n (slice_get xs at))) ∙ found)

pub sent_no_reply : (ys xs zs : List Errand) (at n : ℕ) (ticket : TicketView) → ys ≡ xs → zs ≡ send_at ys at n
    → ticket_at xs at ≡ Some ticket → NoMore reply_of xs zs
sent_no_reply ys xs zs at n ticket same put is =
    subst (λ es. NoMore reply_of xs es) (sym (put ∙ ap (λ es. send_at es at n) same)) (sent_replies xs at n ticket is)

back_value : (word : Back) (to : ℕ) (v : Value) (ticket : TicketView) → ticket_of v ≡ Some ticket
    → reply_of (give_back_value word to v).to (give_back_value word to v).value ≡ None
back_value why.Unplaced to (value.Ticket t) ticket is = refl
back_value why.Unrouted to (value.Ticket t) ticket is = refl
back_value word to value.Nothing ticket is = refl
back_value word to (value.Refused by t) ticket is = refl
back_value word to (value.Unplaced t) ticket is = refl
back_value word to (value.Unrouted t) ticket is = refl
back_value word to (value.Placed p) ticket is = refl
back_value word to (value.Reply s) ticket is = absurd (let no : None ≡ Some ticket = is in cc)
back_value word to (value.Recall r) ticket is = refl
back_value word to value.Closing ticket is = refl

pub back_no_reply : (word : Back) (ys xs zs : List Errand) (at : ℕ) (ticket : TicketView) → ys ≡ xs
    → zs ≡ slice_set ys at (give_back word (errand_at ys at)) → ticket_at xs at ≡ Some ticket → NoMore reply_of xs zs
back_no_reply word ys xs zs at ticket same put is =
    put_none reply_of xs zs at (give_back word (errand_at xs at)) refl
    (put ∙ ap (λ es. slice_set es at (give_back word (errand_at es at))) same)
    (back_value word (errand_at xs at).to (errand_at xs at).value ticket is)

-- what was found is the route of this destination, after orders between these
abbrev pub SeenFor : (known orders : List Change) (dst : List ℕ) (found : Option (List ℕ)) → Type 0
SeenFor known orders dst found =
    (seen : List Change) × IsPrefix known seen × IsPrefix seen orders × (found ≡ route_in dst seen)

-- the same of the dispatch that stands at the last place that was looked up
abbrev pub SeenLast : (known orders : List Change) → List Errand → (last : Option ℕ) → (found : Option (List ℕ)) → Type 0
SeenLast known orders xs last found =
    (at : ℕ) → last ≡ Some at → (dst : List ℕ) → dst_at xs at ≡ Some dst → SeenFor known orders dst found

pub seen_now : (known os later : List Change) (dst : List ℕ) (found : Option (List ℕ)) → IsPrefix known os → IsPrefix os later
    → found ≡ route_in dst later → SeenFor known later dst found
seen_now known os later dst found first more is = (later, prefix_trans known os later first more, prefix_self later, is)

dst_of_ticket : (xs : List Errand) (at : ℕ) (ticket : TicketView) (dst : List ℕ) → ticket_at xs at ≡ Some ticket
    → dst_of ticket.content ≡ Some dst → dst_at xs at ≡ Some dst
dst_of_ticket xs at ticket dst is of = ap dst_in is ∙ of

same_dst : (a b : Option (List ℕ)) → is_same_dst a b ≡ true → (dst : List ℕ) × (a ≡ Some dst) × (b ≡ Some dst)
same_dst None b same = absurd (let no : false ≡ true = same in cc)
same_dst (Some x) None same = absurd (let no : false ≡ true = same in cc)
same_dst (Some x) (Some y) same = (x, refl, ap Some (sym ((bytes_eq-Decides x y).0 same)))

-- a dispatch that goes with the last one has its route
pub seen_with : (known orders : List Change) (xs : List Errand) (last : Option ℕ) (at : ℕ) (ticket : TicketView)
    (found : Option (List ℕ)) → goes_with xs at last ≡ true → ticket_at xs at ≡ Some ticket → SeenLast known orders xs last found
    → (dst : List ℕ) × (dst_of ticket.content ≡ Some dst) × SeenFor known orders dst found
seen_with known orders xs None at ticket found goes is seen = absurd (let no : false ≡ true = goes in cc)
seen_with known orders xs (Some other) at ticket found goes is seen =
    let (dst, here, there) = same_dst (dst_at xs at) (dst_at xs other) goes in
    (dst, sym (ap dst_in is) ∙ here, seen other refl dst there)

-- one dispatch more was aimed
pub aimed_next : (slots : ℕ) (but : Option ℕ) (known os later : List Change) (xs ys zs : List Errand) (at : ℕ)
    (ticket : TicketView) (dst : List ℕ) (servers found : Option (List ℕ)) → Aimed slots but known xs os ys
    → IsPrefix os later → ticket_at ys at ≡ Some ticket → dst_of ticket.content ≡ Some dst → SeenFor known later dst found
    → servers ≡ found → Aims slots but servers at ys zs → Aimed slots but known xs later zs
aimed_next slots but known os later xs ys zs at ticket dst servers found done more is of (seen, first, then, route) same aims =
    carrying.Aimed.aim at ticket dst seen is of first then
    (subst (λ r. Aims slots but r at ys zs) (same ∙ route) aims) (carrying.Aimed.learn more done)

pub last_next : (slots : ℕ) (but : Option ℕ) (known later : List Change) (ys zs : List Errand) (at : ℕ) (ticket : TicketView)
    (dst : List ℕ) (servers found : Option (List ℕ)) → ticket_at ys at ≡ Some ticket → dst_of ticket.content ≡ Some dst
    → SeenFor known later dst found → Aims slots but servers at ys zs → SeenLast known later zs (Some at) found
last_next slots but known later ys zs at ticket dst servers found is of seen aims other same d stands =
    let place : at ≡ other = cc same in
    let was = dst_aimed slots but servers at ys zs ticket d aims is (ap (λ k. dst_at zs k) place ∙ stands) in
    let one : dst ≡ d = cc (sym (dst_of_ticket ys at ticket dst is of) ∙ was) in
    subst (λ e. SeenFor known later e found) one seen

-- what stands in the place of a dispatch that was tried again is none that was refused
others_refused : (result : Result Placed TicketView) → refused_of (after_others result).to (after_others result).value ≡ None
others_refused (Ok placed) = refl
others_refused (Err ticket) = refl

retries_refused : (now slots : ℕ) (but by : Option ℕ) (route : Option (List ℕ)) (ticket : TicketView) (made : Errand)
    → Retries now slots but by route ticket made → refused_of made.to made.value ≡ None
retries_refused now slots but by None ticket made is = ap (λ (e : Errand). refused_of e.to e.value) is
retries_refused now slots but by (Some servers) ticket made (result, tries, is) =
    ap (λ (e : Errand). refused_of e.to e.value) is ∙ others_refused result

pub retried_none : (now slots : ℕ) (but by : Option ℕ) (orders : List Change) (ticket : TicketView) (made : Errand) (xs zs : List Errand)
    (at : ℕ) → RetriesBy now slots but by orders ticket made → zs ≡ slice_set xs at made → NoMore refused_of xs zs × NoneRefused zs at
retried_none now slots but by orders ticket made xs zs at (dst, of, tries) put =
    let none = retries_refused now slots but by (route_in dst orders) ticket made tries in (
      put_none refused_of xs zs at made refl put none,
      λ n found has. absurd (let no : None ≡ Some n = sym none ∙ at_put refused_of xs at n made refl
          (ap (λ es. refused_of (errand_at es at).to (errand_at es at).value) (sym put) ∙ found) in cc),
    )

none_refused : (to : ℕ) (v : Value) (n : ℕ) → is_refused v ≡ false → refused_of to v ≡ Some n → ⊥
none_refused to (value.Refused by t) n other found = absurd (let is : true ≡ false = other in cc)
none_refused to value.Nothing n other found = absurd (let is : None ≡ Some n = found in cc)
none_refused to (value.Ticket t) n other found = absurd (let is : None ≡ Some n = found in cc)
none_refused to (value.Unplaced t) n other found = absurd (let is : None ≡ Some n = found in cc)
none_refused to (value.Unrouted t) n other found = absurd (let is : None ≡ Some n = found in cc)
none_refused to (value.Placed p) n other found = absurd (let is : None ≡ Some n = found in cc)
none_refused to (value.Reply s) n other found = absurd (let is : None ≡ Some n = found in cc)
none_refused to (value.Recall r) n other found = absurd (let is : None ≡ Some n = found in cc)
none_refused to value.Closing n other found = absurd (let is : None ≡ Some n = found in cc)

-- where none was refused
pub none_refused_at : (xs : List Errand) (at : ℕ) → is_refused (errand_at xs at).value ≡ false → NoneRefused xs at
none_refused_at xs at other n found has = none_refused (errand_at xs at).to (errand_at xs at).value n other found

-- whom a server's refusal names
pub refused_by : (v : Value) → is_refused v ≡ true → (by : ℕ) × (ticket : TicketView) × (v ≡ value.Refused by ticket)
refused_by (value.Refused by ticket) is = (by, ticket, refl)
refused_by value.Nothing is = absurd (let no : false ≡ true = is in cc)
refused_by (value.Ticket t) is = absurd (let no : false ≡ true = is in cc)
refused_by (value.Unplaced t) is = absurd (let no : false ≡ true = is in cc)
refused_by (value.Unrouted t) is = absurd (let no : false ≡ true = is in cc)
refused_by (value.Placed p) is = absurd (let no : false ≡ true = is in cc)
refused_by (value.Reply s) is = absurd (let no : false ≡ true = is in cc)
refused_by (value.Recall r) is = absurd (let no : false ≡ true = is in cc)
refused_by value.Closing is = absurd (let no : false ≡ true = is in cc)
