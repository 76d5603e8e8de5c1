-- Lists that break one clause of a legal run each, and bounds at which one holds.
use Rattle.std.proofs.Common.{inl, inr, ℕ, pos, List, [], ◌∷◌, ◌≡◌, Bool, true, false, Option, Some, None, refl, arith}
use Rattle.std.specs.Prelude.{negsuc, codes, ◌^◌, ◌-◌, ◌&&◌, ◌==◌, if◌then◌else◌}
use Rattle.mux_message.specs.Reading.{message_of, tdiscarded_at, tlease_at}
use Rattle.mux_history.specs.declared.name.Name.{Name}
use Rattle.mux_history.specs.declared.kind.RecordKind.{RecordKind}
use Rattle.mux_history.specs.declared.kind.RecordKind.TheVariants.{Took, TookDrained, Discarded, Passed, Nacked, Unrouted, Failed, Offered, Settled, SettledNack, Leased, Drained, Clock, Lost, Ponged, Retired, Dropped}
use Rattle.mux_history.specs.declared.session.InitMode.TheVariants.{Plain}
use Rattle.mux_history.specs.declared.session.SessionId.TheVariants.{Client, Server}
use Rattle.mux_frame.specs.Spelling.{MuxFrame}
use Rattle.mux_message.specs.Made.{frame_of, nack_on, rerr_on, rdiscarded_on, rdrain_on}
use Rattle.mux_model.specs.Tags.{Holder, name_held}
use Rattle.mux_model.specs.Steps.{Call, FrameCall, OfferCall, ClockCall, RetireCall, LoseCall, NackCall, Step, entries}
use Rattle.mux_model.specs.Legal.{Line, IsLegal, SomeLine, IsLostIn, Each, EachStep, IsUnlapsed, IsFair, IsFairReply, IsPassedOn, IsRouterMade, discard, unsent_nack, unsent_no_route, lost}
use Rattle.mux_model.proofs.Rows.{tdispatch, rdispatch, discarding}

abbrev pub step : Call → RecordKind → ℕ → Option Name → ℕ → (taken sent : Option MuxFrame) → Step
step call kind tag name reading taken sent =
    record { call = call; entry = record { rec = Some (record { kind = kind; tag = tag; name = name; reading = reading }); taken = taken; sent = sent } }

abbrev pub n1 : Name
n1 = record { boot = 1; client = 1; seq = 1 }

abbrev pub n2 : Name
n2 = record { boot = 1; client = 1; seq = 2 }

abbrev pub client : ℕ → List Step → Line
client k steps = record { boot = 1; session = Client k; mode = Plain; steps = steps }

abbrev pub server : ℕ → List Step → Line
server k steps = record { boot = 1; session = Server k; mode = Plain; steps = steps }

abbrev pub took : Name → ℕ → Step
took n t = step (FrameCall (tdispatch t) 0) Took t (Some n) 0 (Some (tdispatch t)) None

abbrev pub offers : Name → ℕ → MuxFrame → Step
offers n t f = step (OfferCall n (tdispatch 5) 0 0) Offered t (Some n) 0 None (Some f)

abbrev pub settles : Name → ℕ → MuxFrame → Step
settles n t f = step (FrameCall f 0) (Settled f.kind) t (Some n) 0 (Some f) None

abbrev pub answers : RecordKind → Name → ℕ → MuxFrame → Step
answers kind n t f = step (NackCall n) kind t (Some n) 0 None (Some f)

-- another body
abbrev pub other_dispatch : ℕ → MuxFrame
other_dispatch t = frame_of (pos 2) t (0 ∷ 0 ∷ 0 ∷ 4 ∷ 47 ∷ 115 ∷ 47 ∷ 97 ∷ 0 ∷ 0 ∷ 104 ∷ 106 ∷ [])

abbrev pub other_reply : ℕ → MuxFrame
other_reply t = frame_of (negsuc 1) t (0 ∷ 0 ∷ 0 ∷ 121 ∷ 112 ∷ [])

-- two connections of one boot and number
same_number : IsLegal 3 (client 1 [] ∷ client 1 [] ∷ []) → ⊥
same_number l = omega (arith, l.one_connection 1 (Client 1))

-- a dispatch sent under no name
nameless : IsLegal 3 (client 1 (took n1 5 ∷ []) ∷ server 1 (step (OfferCall n1 (tdispatch 5) 0 0) Offered 2 None 0 None (Some (tdispatch 2)) ∷ []) ∷ []) → ⊥
nameless l = (let x = (l.fair.1.0.0 refl).carried in absurd (cc))

-- under a name that no client's list took
not_taken : IsLegal 3 (client 1 (took n1 5 ∷ []) ∷ server 1 (offers n2 2 (tdispatch 2) ∷ []) ∷ []) → ⊥
not_taken l = grind (arith, (l.fair.1.0.0 refl).carried)

-- with another body
other_body : IsLegal 3 (client 1 (took n1 5 ∷ []) ∷ server 1 (offers n1 2 (other_dispatch 2) ∷ []) ∷ []) → ⊥
other_body l = grind (arith, (l.fair.1.0.0 refl).carried)

-- on an open tag
on_open_tag : IsLegal 3 (client 1 (took n2 6 ∷ took n1 5 ∷ []) ∷ server 1 (offers n2 2 (tdispatch 2) ∷ offers n1 2 (tdispatch 2) ∷ []) ∷ []) → ⊥
on_open_tag l = (let x : true ≡ false = (l.fair.1.0.0 refl).free in absurd (cc))

-- after an Rdrain
after_rdrain : IsLegal 3 (client 1 (took n1 5 ∷ []) ∷ server 1 (offers n1 2 (tdispatch 2) ∷ step (FrameCall (frame_of (pos 64) 1 []) 0) Drained 1 None 0 (Some (frame_of (pos 64) 1 [])) (Some (rdrain_on 1)) ∷ []) ∷ []) → ⊥
after_rdrain l = (let x : true ≡ false = (l.fair.1.0.0 refl).undrained in absurd (cc))

-- on a lapsed lease: 10 at 5, offered at 15 exactly
abbrev lease : MuxFrame
lease = frame_of (pos 67) 0 (0 ∷ 0 ∷ 0 ∷ 0 ∷ 0 ∷ 0 ∷ 0 ∷ 0 ∷ 10 ∷ [])

abbrev offered_at : ℕ → Step
offered_at now = step (OfferCall n1 (tdispatch 5) 0 now) Offered 2 (Some n1) now None (Some (tdispatch 2))

abbrev leased_at : ℕ → MuxFrame → Step
leased_at now f = step (FrameCall f now) (Leased 10) 0 None now (Some f) None

on_lapsed : IsLegal 3 (client 1 (took n1 5 ∷ []) ∷ server 1 (offered_at 15 ∷ leased_at 5 lease ∷ []) ∷ []) → ⊥
unfolding message_of tlease_at
on_lapsed l = (let x : true ≡ false = l.unlapsed.1.0.0 refl in absurd (cc))

-- a dispatch that was taken without its place as its name
other_place : IsLegal 3 (client 1 (took n2 5 ∷ []) ∷ []) → ⊥
other_place l = grind (arith, l.named.0.0 refl)

-- of another boot
other_boot : IsLegal 3 (client 1 (took (record { boot = 2; client = 1; seq = 1 }) 5 ∷ []) ∷ []) → ⊥
other_boot l = grind (arith, l.named.0.0 refl)

-- one name on two servers, of two boots
offered_on_two_boots : IsLegal 3 (client 1 (took n1 5 ∷ []) ∷ server 1 (offers n1 2 (tdispatch 2) ∷ []) ∷ record { boot = 2; session = Server 1; mode = Plain; steps = offers n1 2 (tdispatch 2) ∷ [] } ∷ []) → ⊥
offered_on_two_boots l = omega (arith, l.sent_again n1)

-- a reply that no server gave
other_reply_passed : IsLegal 3 (client 1 (answers Passed n1 5 (other_reply 5) ∷ took n1 5 ∷ []) ∷ server 1 (settles n1 2 (rdispatch 2) ∷ offers n1 2 (tdispatch 2) ∷ []) ∷ []) → ⊥
other_reply_passed l = grind (arith, (l.fair.0.0 refl).2)

-- a nack of a dispatch that was sent
nack_of_sent : IsLegal 3 (client 1 (answers Nacked n1 5 (nack_on 5) ∷ took n1 5 ∷ []) ∷ server 1 (offers n1 2 (tdispatch 2) ∷ []) ∷ []) → ⊥
nack_of_sent l = grind (arith, (l.fair.0.0 refl).2)

-- a stray Rdispatch, and a stray Rdiscarded
stray_rdispatch : IsLegal 3 (client 1 (answers Passed n1 5 (rdispatch 5) ∷ []) ∷ []) → ⊥
stray_rdispatch l = l.fair.0.0 refl

stray_rdiscarded : IsLegal 3 (client 1 (answers Passed n1 5 (rdiscarded_on 5) ∷ []) ∷ []) → ⊥
stray_rdiscarded l = l.fair.0.0 refl

-- a message behind the end
behind_the_end : IsLegal 3 (client 1 (step (FrameCall (frame_of (pos 65) 3 []) 0) Ponged 3 None 0 (Some (frame_of (pos 65) 3 [])) None ∷ step (LoseCall 0) Lost 0 None 0 None None ∷ []) ∷ []) → ⊥
behind_the_end l = (let x : Some (frame_of (pos 65) 3 []) ≡ None = (l.cut.0.0 (inl refl)).0 in absurd (cc))

abbrev lost_step : Step
lost_step = step (LoseCall 0) Lost 0 None 0 None None

-- `no route` of a dispatch that was sent
no_route_of_sent : IsLegal 3 (client 1 (answers Unrouted n1 5 (rerr_on 5 (codes "no route")) ∷ took n1 5 ∷ []) ∷ server 1 (offers n1 2 (tdispatch 2) ∷ []) ∷ []) → ⊥
no_route_of_sent l = grind (arith, (l.fair.0.0 refl).2)

-- `upstream lost` while the server's list goes on
lost_but_going : IsLegal 3 (client 1 (answers Failed n1 5 (rerr_on 5 (codes "upstream lost")) ∷ took n1 5 ∷ []) ∷ server 1 (offers n1 2 (tdispatch 2) ∷ []) ∷ []) → ⊥
lost_but_going l = grind (arith, (l.fair.0.0 refl).2)

-- `upstream lost` though the server's reply had come
abbrev settled_then_lost : List Line
settled_then_lost = client 1 (answers Failed n1 5 (rerr_on 5 (codes "upstream lost")) ∷ took n1 5 ∷ []) ∷ server 1 (lost_step ∷ settles n1 2 (rdispatch 2) ∷ offers n1 2 (tdispatch 2) ∷ []) ∷ []

freed : (b : Bool) (h : Holder) (n : Name) → name_held (if true && b then None else (if true && b then Some h else None)) ≡ Some n → ⊥
freed true h n e = absurd (cc)
freed false h n e = absurd (cc)

not_lost : (n : Name) → SomeLine (IsLostIn n) settled_then_lost → ⊥
not_lost n (inl x) = grind (arith, x)
not_lost n (inr (inl x)) = freed (2 == x.3) (record { place = 0; name = Some n1 }) n x.4
not_lost n (inr (inr x)) = x

not_fair : (n : Name) → IsFairReply settled_then_lost (answers Failed n1 5 (rerr_on 5 (codes "upstream lost"))).entry (rerr_on 5 (codes "upstream lost")) n → ⊥
not_fair n (inl p) = grind (arith, p)
not_fair n (inr (unsent_nack e z)) = grind (arith, e)
not_fair n (inr (unsent_no_route e z)) = grind (arith, e)
not_fair n (inr (lost e s)) = not_lost n s
not_fair n (inr (discard e s)) = grind (arith, e)

lost_but_settled : IsLegal 3 (client 1 (answers Failed n1 5 (rerr_on 5 (codes "upstream lost")) ∷ took n1 5 ∷ []) ∷ server 1 (lost_step ∷ settles n1 2 (rdispatch 2) ∷ offers n1 2 (tdispatch 2) ∷ []) ∷ []) → ⊥
lost_but_settled l = (let x = l.fair.0.0 refl in not_fair x.0 x.2)

-- Rdiscarded with no Tdiscarded
undiscarded : IsLegal 3 (client 1 (answers Nacked n1 5 (rdiscarded_on 5) ∷ took n1 5 ∷ []) ∷ []) → ⊥
undiscarded l = grind (arith, (l.fair.0.0 refl).2)

-- Rdiscarded on another tag than the Tdiscarded names
discarded_elsewhere : IsLegal 3 (client 1 (step (FrameCall (discarding 6) 0) (Discarded false) 5 (Some n1) 0 (Some (discarding 6)) (Some (rdiscarded_on 5)) ∷ took n1 5 ∷ []) ∷ []) → ⊥
unfolding message_of tdiscarded_at
discarded_elsewhere l = grind (arith, (l.fair.0.0 refl).2)

-- a router nack that has a context
nack_with_context : IsLegal 3 (client 1 (answers Nacked n1 5 (frame_of (negsuc 1) 5 (2 ∷ 0 ∷ 1 ∷ 0 ∷ 0 ∷ 0 ∷ 0 ∷ [])) ∷ took n1 5 ∷ []) ∷ []) → ⊥
nack_with_context l = grind (arith, (l.fair.0.0 refl).2)

-- the nack after the client's Rdrain, of a name that was sent
refused_but_sent : IsLegal 3 (client 1 (step (FrameCall (tdispatch 5) 0) TookDrained 5 (Some n1) 0 (Some (tdispatch 5)) (Some (nack_on 5)) ∷ []) ∷ server 1 (offers n1 2 (tdispatch 2) ∷ []) ∷ []) → ⊥
refused_but_sent l = grind (arith, (l.fair.0.0 refl).2)

-- the reply to another dispatch
reply_to_another : IsLegal 3 (client 1 (answers Passed n1 5 (other_reply 5) ∷ took n2 6 ∷ took n1 5 ∷ [])
    ∷ server 1 (settles n2 3 (other_reply 3) ∷ settles n1 2 (rdispatch 2) ∷ offers n2 3 (tdispatch 3) ∷ offers n1 2 (tdispatch 2) ∷ []) ∷ []) → ⊥
reply_to_another l = grind (arith, (l.fair.0.0 refl).2)

-- a stray of the server's passed on
stray_passed : IsLegal 3 (client 1 (answers Passed n1 5 (rdispatch 5) ∷ took n1 5 ∷ []) ∷ server 1 (step (FrameCall (rdispatch 3) 0) Dropped 3 None 0 (Some (rdispatch 3)) None ∷ offers n1 2 (tdispatch 2) ∷ []) ∷ []) → ⊥
stray_passed l = grind (arith, (l.fair.0.0 refl).2)

-- bounds of the lease: each list has the newest first
abbrev minus_lease : MuxFrame
minus_lease = frame_of (pos 67) 0 (0 ∷ 255 ∷ 255 ∷ 255 ∷ 255 ∷ 255 ∷ 255 ∷ 255 ∷ 255 ∷ [])

abbrev unit_1_lease : MuxFrame
unit_1_lease = frame_of (pos 67) 0 (1 ∷ 0 ∷ 0 ∷ 0 ∷ 0 ∷ 0 ∷ 0 ∷ 0 ∷ 0 ∷ [])

before_lapse : EachStep (IsUnlapsed (Server 1)) (offered_at 14 ∷ leased_at 5 lease ∷ [])
unfolding message_of tlease_at
before_lapse = ((λ h. refl), (tt, tt))

-- the lease after the offer doesn't matter, nor does the drain
leased_later : EachStep (IsUnlapsed (Server 1)) (leased_at 30 minus_lease ∷ offered_at 3 ∷ [])
unfolding message_of tlease_at
leased_later = (tt, ((λ h. refl), tt))

lease_below_zero : EachStep (IsUnlapsed (Server 1)) (offered_at 5 ∷ leased_at 5 minus_lease ∷ []) → ⊥
unfolding message_of tlease_at
lease_below_zero u = (let x : true ≡ false = u.0 refl in absurd (cc))

other_unit : EachStep (IsUnlapsed (Server 1)) (offered_at 500 ∷ leased_at 5 unit_1_lease ∷ [])
unfolding message_of tlease_at
other_unit = ((λ h. refl), (tt, tt))

-- another unit doesn't lift a lease that has lapsed; a later lease does
other_unit_lifts_nothing : EachStep (IsUnlapsed (Server 1)) (offered_at 500 ∷ leased_at 499 unit_1_lease ∷ leased_at 5 lease ∷ []) → ⊥
unfolding message_of tlease_at
other_unit_lifts_nothing u = (let x : true ≡ false = u.0 refl in absurd (cc))

leased_again : EachStep (IsUnlapsed (Server 1)) (offered_at 500 ∷ leased_at 499 lease ∷ leased_at 5 lease ∷ [])
unfolding message_of tlease_at
leased_again = ((λ h. refl), (tt, (tt, tt)))

-- a moment handed in by a step of any kind counts, and the greatest counts
retired_at_a_moment : EachStep (IsUnlapsed (Server 1)) (offered_at 6 ∷ step (RetireCall 20) Retired 0 None 20 None None ∷ leased_at 5 lease ∷ []) → ⊥
unfolding message_of tlease_at
retired_at_a_moment u = (let x : true ≡ false = u.0 refl in absurd (cc))

-- a lease granted at a moment below the reading counts from the reading
leased_from_the_reading : EachStep (IsUnlapsed (Server 1)) (offered_at 29 ∷ leased_at 5 lease ∷ step (ClockCall 20) Clock 0 None 20 None None ∷ [])
unfolding message_of tlease_at
leased_from_the_reading = ((λ h. refl), (tt, (tt, tt)))

-- the cap: at the greatest reading every lease has lapsed
at_the_cap : EachStep (IsUnlapsed (Server 1)) (offered_at (2 ^ 64 - 1) ∷ leased_at (2 ^ 64 - 5) lease ∷ []) → ⊥
unfolding message_of tlease_at
at_the_cap u = (let x : true ≡ false = u.0 refl in absurd (cc))

below_the_cap : EachStep (IsUnlapsed (Server 1)) (offered_at (2 ^ 64 - 2) ∷ leased_at (2 ^ 64 - 5) lease ∷ [])
unfolding message_of tlease_at
below_the_cap = ((λ h. refl), (tt, tt))

-- passed on: a server's own nack with a context; an Rerr of type 127 in the type that is written; a Tdiscarded of type -62
abbrev nack_with : ℕ → MuxFrame
nack_with t = frame_of (negsuc 1) t (2 ∷ 0 ∷ 1 ∷ 0 ∷ 0 ∷ 0 ∷ 0 ∷ [])

abbrev settled_so : MuxFrame → List Line
settled_so f = server 1 (settles n1 2 f ∷ offers n1 2 (tdispatch 2) ∷ []) ∷ []

pass_nack : IsPassedOn (settled_so (nack_with 2)) n1 (nack_with 5)
pass_nack = (nack_with 2, inl (1, refl, inl (refl, refl, refl)), refl, λ nack. refl)

pass_127 : IsPassedOn (settled_so (frame_of (pos 127) 2 (120 ∷ []))) n1 (frame_of (negsuc 127) 5 (120 ∷ []))
pass_127 = (frame_of (pos 127) 2 (120 ∷ []), inl (1, refl, inl (refl, refl, refl)), refl, λ nack. absurd (cc))

pass_127_as_is : IsPassedOn (settled_so (frame_of (pos 127) 2 (120 ∷ []))) n1 (frame_of (pos 127) 5 (120 ∷ [])) → ⊥
pass_127_as_is p = grind (arith, p)

discard_62 : IsRouterMade [] n1 (step (FrameCall (frame_of (negsuc 61) 0 (0 ∷ 0 ∷ 5 ∷ 120 ∷ [])) 0) (Discarded false) 5 (Some n1) 0 (Some (frame_of (negsuc 61) 0 (0 ∷ 0 ∷ 5 ∷ 120 ∷ []))) (Some (rdiscarded_on 5))).entry (rdiscarded_on 5)
unfolding message_of tdiscarded_at
discard_62 = discard refl (120 ∷ [], refl)

-- a dispatch sent to a server on tag 0, 1 or with the top bit: no clause speaks of the range
abbrev sent_on_tag : ℕ → List Line
sent_on_tag t = client 1 (took n1 5 ∷ []) ∷ server 1 (offers n1 t (tdispatch t) ∷ []) ∷ []

fair_on_1 : Each (IsFair (sent_on_tag 1) (Server 1)) (entries (offers n1 1 (tdispatch 1) ∷ []))
fair_on_1 = ((λ h. record { carried = (n1, refl, tdispatch 5, inl (refl, refl, inl (refl, refl, refl)), refl); free = refl; undrained = refl }), tt)

fair_on_fragment : Each (IsFair (sent_on_tag (2 ^ 23)) (Server 1)) (entries (offers n1 (2 ^ 23) (tdispatch (2 ^ 23)) ∷ []))
fair_on_fragment = ((λ h. record { carried = (n1, refl, tdispatch 5, inl (refl, refl, inl (refl, refl, refl)), refl); free = refl; undrained = refl }), tt)

-- a stray Rerr is fair only as the router's own answer to what the entry took
unfair_rerr : Each (IsFair [] (Client 1)) (entries (answers Passed n1 5 (rerr_on 5 (codes "surprise")) ∷ [])) → ⊥
unfair_rerr f = f.0 refl

-- an answer on a tag that was freed by an Rdiscarded
answered_twice : IsLegal 3 (client 1 (answers Failed n1 5 (rerr_on 5 (codes "upstream lost"))
    ∷ step (FrameCall (discarding 5) 0) (Discarded false) 5 (Some n1) 0 (Some (discarding 5)) (Some (rdiscarded_on 5)) ∷ took n1 5 ∷ []) ∷ []) → ⊥
unfolding message_of tdiscarded_at
answered_twice l = l.fair.0.0 refl

-- a moment of 30 before an offer at 12, whatever the record says
after_a_moment : EachStep (IsUnlapsed (Server 1)) (offered_at 12 ∷ step (ClockCall 30) Clock 0 None 30 None None ∷ leased_at 5 lease ∷ []) → ⊥
unfolding message_of tlease_at
after_a_moment u = (let x : true ≡ false = u.0 refl in absurd (cc))

-- SENT AGAIN
abbrev nacks : Name → ℕ → Step
nacks n t = step (FrameCall (nack_on t) 0) SettledNack t (Some n) 0 (Some (nack_on t)) None

-- two servers, and no nack
abbrev sent_twice : List Line
sent_twice = client 1 (took n1 5 ∷ []) ∷ server 1 (offers n1 2 (tdispatch 2) ∷ []) ∷ server 2 (offers n1 2 (tdispatch 2) ∷ []) ∷ []

again_unnacked : IsLegal 3 sent_twice → ⊥
again_unnacked l = omega (arith, l.sent_again n1)

-- sent again after a nack, where nothing may be sent again
abbrev sent_again : List Line
sent_again = client 1 (took n1 5 ∷ []) ∷ server 1 (nacks n1 2 ∷ offers n1 2 (tdispatch 2) ∷ []) ∷ server 2 (offers n1 2 (tdispatch 2) ∷ []) ∷ []

again_too_often : IsLegal 0 sent_again → ⊥
again_too_often l = omega (arith, l.tries n1)

-- the first nack passed on while the second sending is out
passed_too_soon : IsPassedOn sent_again n1 (nack_on 5) → ⊥
passed_too_soon p = grind (arith, p)
