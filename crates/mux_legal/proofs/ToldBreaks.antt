-- Records that lie of their step, refused as recorded; and what a record may leave open.
use Rattle.std.proofs.Common.{ℕ, pos, [], ◌∷◌, ◌≡◌, true, false, Some, None, refl, arith}
use Rattle.std.specs.Prelude.{negsuc}
use Rattle.mux_history.specs.declared.kind.RecordKind.TheVariants.{Took, Ignored, Ponged, Offered, Settled, SettledNack, Retried, Clock, Noted, Nacked}
use Rattle.mux_history.specs.declared.session.SessionId.TheVariants.{Client, Server}
use Rattle.mux_message.specs.Made.{frame_of, rping_on, nack_on}
use Rattle.mux_model.specs.Steps.{FrameCall, OfferCall, ClockCall}
use Rattle.mux_model.specs.Replay.{is_down_history}
use Rattle.mux_model.proofs.Rows.{limits, tdispatch, rdispatch}
use Rattle.mux_history.specs.declared.record.Record.{Record}
use Rattle.mux_legal.specs.Tellings.{IsTold}
use Rattle.mux_legal.proofs.LegalBreaks.{step, n1, offers}

-- the record has another tag than the dispatch
other_tag : IsTold (Client 1) (step (FrameCall (tdispatch 5) 0) Took 6 (Some n1) 0 (Some (tdispatch 5)) None) [] → ⊥
other_tag t = grind (arith, t)

-- offered, and nothing was sent
offer_without_message : IsTold (Server 1) (step (OfferCall n1 (tdispatch 5) 0 0) Offered 2 (Some n1) 0 None None) [] → ⊥
offer_without_message t = grind (arith, t)

-- a reading that was not handed in
other_reading : IsTold (Server 1) (step (ClockCall 5) Clock 0 None 7 None None) [] → ⊥
other_reading t = grind (arith, t)

-- settled by a ping
settled_by_ping : IsTold (Server 1) (step (FrameCall (rping_on 2) 0) (Settled (negsuc 1)) 2 (Some n1) 0 (Some (rping_on 2)) None) (offers n1 2 (tdispatch 2) ∷ []) → ⊥
settled_by_ping t = grind (arith, t)

-- a dispatch that is hidden behind Ignored; and one that is sent behind Ponged
hidden_dispatch : IsTold (Client 1) (step (FrameCall (tdispatch 5) 0) Ignored 5 None 0 (Some (tdispatch 5)) None) [] → ⊥
hidden_dispatch t = grind (arith, t)

hidden_offer : IsTold (Server 1) (step (FrameCall (frame_of (pos 65) 2 []) 0) Ponged 2 None 0 None (Some (tdispatch 2))) [] → ⊥
hidden_offer t = grind (arith, t)

-- a final reply that is hidden behind Ponged on a tag that is held
hidden_reply : IsTold (Server 1) (step (FrameCall (rdispatch 2) 0) Ponged 2 None 0 (Some (rdispatch 2)) None) (offers n1 2 (tdispatch 2) ∷ []) → ⊥
hidden_reply t = grind (arith, t)

-- an Rdispatch that is sent behind Nacked and isn't the nack
nack_that_is_none : IsTold (Client 1) (step (ClockCall 0) Nacked 5 (Some n1) 0 None (Some (rdispatch 5))) [] → ⊥
nack_that_is_none t = grind (arith, t)

-- a nack that is told as another reply, and another reply that is told as a nack
nack_as_reply : IsTold (Server 1) (step (FrameCall (nack_on 2) 0) (Settled (negsuc 1)) 2 (Some n1) 0 (Some (nack_on 2)) None) (offers n1 2 (tdispatch 2) ∷ []) → ⊥
nack_as_reply t = grind (arith, t)

reply_as_nack : IsTold (Server 1) (step (FrameCall (rdispatch 2) 0) SettledNack 2 (Some n1) 0 (Some (rdispatch 2)) None) (offers n1 2 (tdispatch 2) ∷ []) → ⊥
reply_as_nack t = grind (arith, t)

-- a nack that is sent to a client behind Retried
nack_behind_retried : IsTold (Client 1) (step (ClockCall 0) Retried 5 (Some n1) 0 None (Some (nack_on 5))) [] → ⊥
nack_behind_retried t = grind (arith, t)

-- the type byte of Settled may be another than that of the reply
other_type : IsTold (Server 1) (step (FrameCall (rdispatch 2) 0) (Settled (negsuc 127)) 2 (Some n1) 0 (Some (rdispatch 2)) None) (offers n1 2 (tdispatch 2) ∷ [])
other_type = (refl, ((refl, refl, refl), refl))

-- a note may raise the reading, though it hands in no moment
abbrev noted_at : ℕ → Record
noted_at x = record { kind = Noted false; tag = 5; name = Some n1; reading = x }

note_with_reading : is_down_history (record { limits = limits; boot = 1; number = 1 }) (noted_at 99 ∷ record { kind = Took; tag = 5; name = Some n1; reading = 0 } ∷ []) ≡ true
note_with_reading = refl
