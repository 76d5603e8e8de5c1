-- Lawful and unlawful ends, message by message, and a stream that isn't one. Lists have the newest first.
use Rattle.std.proofs.Common.{pos, List, [], ◌∷◌, ◌≡◌, true, false, refl, arith}
use Rattle.std.specs.Prelude.{codes, ◌++◌}
use Rattle.std.proofs.lemmas.Bool.{eqb-true}
use Rattle.mux_frame.specs.Spelling.{MuxFrame}
use Rattle.mux_message.specs.Made.{frame_of, rdiscarded_on, probe, rerr_on}
use Rattle.mux_model.specs.Lawful.{ToServer, ToClient, Said, Sends, Takes, IsStream, MayAsk, MayAnswer, IsLawfulClient, IsLawfulServer}
use Rattle.mux_model.proofs.Rows.{tdispatch, rdispatch, discarding}

abbrev ask : MuxFrame → Said
ask f = record { way = ToServer; message = f }

abbrev got : MuxFrame → Said
got f = record { way = ToClient; message = f }

-- a second dispatch on a tag that is not answered
asks_twice : IsLawfulClient (ask (tdispatch 5) ∷ ask (tdispatch 5) ∷ []) → ⊥
asks_twice l = grind (arith, l.0.0 5)

-- a dispatch on tag 0
asks_on_0 : IsLawfulClient (ask (tdispatch 0) ∷ []) → ⊥
asks_on_0 l = (let x : true ≡ false = l.0.1 in absurd (cc))

-- a Tinit, a Treq, a Tdrain, a Tlease, an unknown T on a tag that is not answered
tinit_on_open : IsLawfulClient (ask (frame_of (pos 68) 5 (0 ∷ 1 ∷ [])) ∷ ask (tdispatch 5) ∷ []) → ⊥
tinit_on_open l = grind (arith, l.0.0 5)

treq_on_open : IsLawfulClient (ask (frame_of (pos 1) 5 []) ∷ ask (tdispatch 5) ∷ []) → ⊥
treq_on_open l = grind (arith, l.0.0 5)

tdrain_on_open : IsLawfulClient (ask (frame_of (pos 64) 5 []) ∷ ask (tdispatch 5) ∷ []) → ⊥
tdrain_on_open l = grind (arith, l.0.0 5)

tlease_on_open : IsLawfulClient (ask (frame_of (pos 67) 5 []) ∷ ask (tdispatch 5) ∷ []) → ⊥
tlease_on_open l = grind (arith, l.0.0 5)

unknown_on_open : IsLawfulClient (ask (frame_of (pos 9) 5 []) ∷ ask (tdispatch 5) ∷ []) → ⊥
unknown_on_open l = grind (arith, l.0.0 5)

-- the probe twice without its echo; and with it
probe_twice : IsLawfulClient (ask probe ∷ ask probe ∷ []) → ⊥
probe_twice l = grind (arith, l.0.0 1)

both_probes : IsLawfulClient (ask (frame_of (pos 127) 1 (codes "tinit check")) ∷ ask probe ∷ []) → ⊥
both_probes l = grind (arith, l.0.0 1)

-- asking on a tag again once the Rdiscarded was taken is lawful
asks_after_rdiscarded : IsLawfulClient (ask (tdispatch 5) ∷ got (rdiscarded_on 5) ∷ ask (discarding 5) ∷ ask (tdispatch 5) ∷ [])
asks_after_rdiscarded = (((λ t one h. refl), refl), (((λ t one h. absurd (cc)), refl), (((λ t one h. absurd (cc)), refl), (((λ t one h. refl), refl), tt))))

-- a Tping and a Tdiscarded while the tag is open are lawful; so is a Tdrain on tag 0, twice
pings_on_open : MayAsk (ask (frame_of (pos 65) 5 [])) (ask (tdispatch 5) ∷ [])
pings_on_open = ((λ t one h. absurd (cc)), refl)

drains_on_0 : MayAsk (ask (frame_of (pos 64) 0 [])) (ask (frame_of (pos 64) 0 []) ∷ [])
drains_on_0 = ((λ t one h. absurd (omega (arith, one, eqb-true 0 t h))), refl)

-- a second reply
replies_twice : IsLawfulServer (got (rdispatch 2) ∷ got (rdispatch 2) ∷ ask (tdispatch 2) ∷ []) → ⊥
replies_twice l = grind (arith, l.0 2)

-- a reply to nothing; an Rdiscarded, an Rerr to nothing
replies_to_nothing : IsLawfulServer (got (rdispatch 2) ∷ []) → ⊥
replies_to_nothing l = grind (arith, l.0 2)

rdiscarded_to_nothing : IsLawfulServer (got (rdiscarded_on 2) ∷ []) → ⊥
rdiscarded_to_nothing l = grind (arith, l.0 2)

rerr_to_nothing : IsLawfulServer (got (rerr_on 2 []) ∷ []) → ⊥
rerr_to_nothing l = grind (arith, l.0 2)

-- on tag 1 anything goes
rerr_on_1 : MayAnswer (got (rerr_on 1 [])) []
rerr_on_1 = (λ t two h. absurd (omega (arith, two, eqb-true 1 t h)))

none : (later : List MuxFrame) → [] ≡ later ++ tdispatch 5 ∷ [] → ⊥
none [] e = grind (arith, e)
none (m ∷ later) e = grind (arith, e)

other : (later : List MuxFrame) → tdispatch 6 ∷ tdispatch 5 ∷ [] ≡ later ++ tdispatch 6 ∷ [] → ⊥
other [] e = grind (arith, e)
other (m ∷ []) e = grind (arith, e)
other (m ∷ (k ∷ [])) e = grind (arith, e)
other (m ∷ (k ∷ (j ∷ later))) e = grind (arith, e)

-- a message taken that was not sent; and out of order
taken_unsent : IsStream (Takes ToServer (tdispatch 5) ∷ []) → ⊥
taken_unsent st = none (st.0 ToServer).0 (st.0 ToServer).1

taken_out_of_order : IsStream (Takes ToServer (tdispatch 6) ∷ Sends ToServer (tdispatch 6) ∷ Sends ToServer (tdispatch 5) ∷ []) → ⊥
taken_out_of_order st = other (st.0 ToServer).0 (st.0 ToServer).1
