-- What a call with many frames leaves.
use Rattle.std.specs.Prelude.{◌≡◌, ℕ, List, [], ◌∷◌, ◌++◌, Option, Some, None, Result, Ok, Err, IsSomeAnd, slice_set}
use Rattle.mux_frame.specs.Spelling.{MuxFrame}
use Rattle.mux_frame.specs.Views.{FrameView}
use Rattle.mux_history.specs.declared.record.Record.{Record}
use Rattle.translate_book.specs.Values.{TicketView}
use Rattle.translate_book.specs.declared.placed.Placed.{Placed}
use Rattle.translate_book.specs.declared.recall.Recall.{Recall}
use Rattle.translate_book.specs.declared.refusal.OfferRefusal.{OfferRefusal}
use Rattle.translate_book.specs.declared.refusal.OfferRefusal.TheVariants.{Closed}
use Rattle.translate_book.specs.declared.sent.Settled.{Settled}
use Rattle.client_session.specs.declared.answers.Recalled.{Recalled}
use Rattle.client_session.specs.declared.answers.Recalled.TheVariants.{Stale}
use Rattle.client_session.specs.declared.answers.UpStep.{UpStep}
use Rattle.client_session.specs.Decide.{offer_refusal}
use Rattle.client_session.specs.State.{figures_in}
use Rattle.client_session.specs.Steps.{OfferStep, RecallStep}
use Rattle.server_session.specs.declared.answers.Answer.{Answer}
use Rattle.server_session.specs.declared.answers.Answer.TheVariants.{Again}
use Rattle.server_session.specs.declared.answers.DownStep.{DownStep}
use Rattle.server_session.specs.State.{OwesNote, OwesReply}
use Rattle.server_session.specs.Steps.{NackStep, NoteStep, SettleStep, UnrouteStep}
use Rattle.kept_session.specs.Recorded.{IsRecordOf}
use Rattle.kept_session.specs.RecordedDown.{IsRecordOfDown}
use Rattle.hub_close.specs.declared.receipt.Stub.{Stub}
use Rattle.hub_close.specs.Receiving.{Receiving}
use Rattle.hub_base.specs.Batching.{Batched}
use Rattle.hub_base.specs.Errands.{done, errand_at, of_down, of_up, placed_at, placing, recalling, refused, reply_at, ticket_at, unsent}
use Rattle.hub_base.specs.declared.errands.Errand.{Errand}
use Rattle.hub_base.specs.declared.errands.Value.TheVariants as value
use Rattle.kept_session.specs.Reached.{Kept}
use Rattle.kept_session.specs.ReachedDown.{KeptDown}
use Rattle.hub_steps.specs.Down.{MakesDown, StartsDown}
use Rattle.hub_steps.specs.Up.{Makes, Starts}

-- each receipt is of the frame at its place, by a relation of frames and records
abbrev pub AreOf : (MuxFrame → Record → Type 0) → List FrameView → List Stub → Type 0
AreOf Of [] [] = Unit {0}
AreOf Of [] (r ∷ rs) = ⊥
AreOf Of (f ∷ fs) [] = ⊥
AreOf Of (f ∷ fs) (r ∷ rs) = Of f.frame r.kept × AreOf Of fs rs

-- frames were taken off the front, and their receipts stand behind the others
abbrev pub Takes : (MuxFrame → Record → Type 0) → (before after : List FrameView)
    → (old new : List Stub) → Type 0
Takes Of before after old new =
    (fs : List FrameView) × (rs : List Stub) × (before ≡ fs ++ after) × (new ≡ old ++ rs) × AreOf Of fs rs

-- the steps of frames on a session towards a client, one after another, each with its receipt
pub data StepsDown (now : ℕ) (s : Option KeptDown) : List FrameView → List Stub → List Errand → Option KeptDown
    → Type 0 where
  none : StepsDown now s [] [] [] s
  next : {fs : List FrameView} {rs : List Stub} {es : List Errand} {t u : Option KeptDown}
      (f : FrameView) (r : Stub) (step : DownStep)
      → StartsDown t u f now (Ok (r, step)) → StepsDown now s fs rs es t
      → StepsDown now s (fs ++ f ∷ []) (rs ++ r ∷ []) (es ++ of_down step ∷ []) u

-- the same towards a server
pub data StepsUp (now : ℕ) (s : Option Kept) : List FrameView → List Stub → List Errand → Option Kept → Type 0
  where
    none : StepsUp now s [] [] [] s
    next : {fs : List FrameView} {rs : List Stub} {es : List Errand} {t u : Option Kept}
        (f : FrameView) (r : Stub) (step : UpStep)
        → Starts t u f now (Ok (r, step)) → StepsUp now s fs rs es t
        → StepsUp now s (fs ++ f ∷ []) (rs ++ r ∷ []) (es ++ of_up step ∷ []) u

-- the next frame was taken, by the session's own step on it, with its receipt, and what the step gave is held
abbrev pub TakesNextDown : ℕ → (s t : Option KeptDown) → (old new : Batched) → (had has : Receiving)
    → Type 0
TakesNextDown now s t old new had has =
    (f : FrameView) × (r : Stub) × (step : DownStep)
    × (old.frames ≡ f ∷ new.frames) × (has ≡ record had { list = had.list ++ r ∷ [] })
    × StartsDown s t f now (Ok (r, step)) × IsRecordOfDown f.frame r.kept
    × (new.errands ≡ old.errands ++ of_down step ∷ []) × (new.room ≡ old.room)

abbrev pub TakesNextUp : ℕ → (s t : Option Kept) → (old new : Batched) → (had has : Receiving) → Type 0
TakesNextUp now s t old new had has =
    (f : FrameView) × (r : Stub) × (step : UpStep)
    × (old.frames ≡ f ∷ new.frames) × (has ≡ record had { list = had.list ++ r ∷ [] })
    × Starts s t f now (Ok (r, step)) × IsRecordOf f.frame r.kept
    × (new.errands ≡ old.errands ++ of_up step ∷ []) × (new.room ≡ old.room)

-- frames were taken off the front, by the session's own steps on them; their receipts stand behind the others, and so
-- do the values that the steps gave
abbrev pub TakesAllDown : ℕ → (s t : Option KeptDown) → (old new : Batched) → (had has : Receiving)
    → Type 0
TakesAllDown now s t old new had has =
    (fs : List FrameView) × (rs : List Stub) × (es : List Errand) × (old.frames ≡ fs ++ new.frames)
    × (has ≡ record had { list = had.list ++ rs }) × (new.errands ≡ old.errands ++ es)
    × AreOf IsRecordOfDown fs rs × StepsDown now s fs rs es t × (new.room ≡ old.room)

abbrev pub TakesAllUp : ℕ → (s t : Option Kept) → (old new : Batched) → (had has : Receiving) → Type 0
TakesAllUp now s t old new had has =
    (fs : List FrameView) × (rs : List Stub) × (es : List Errand) × (old.frames ≡ fs ++ new.frames)
    × (has ≡ record had { list = had.list ++ rs }) × (new.errands ≡ old.errands ++ es)
    × AreOf IsRecordOf fs rs × StepsUp now s fs rs es t × (new.room ≡ old.room)

-- a place is here, or a reply, for which the client waits on this tag: the session's step on it gives nothing
abbrev pub NotesHere : Option KeptDown → List Errand → (at tag : ℕ) → Type 0
NotesHere s xs at tag =
    (placed : Placed) × (placed_at xs at ≡ Some placed) × IsSomeAnd s (λ k. OwesNote k.state placed.name tag)

abbrev pub PassesHere : Option KeptDown → List Errand → (at tag : ℕ) → Type 0
PassesHere s xs at tag =
    (settled : Settled) × (reply_at xs at ≡ Some settled) × (settled.again ≡ None)
    × IsSomeAnd s (λ k. OwesReply k.state settled.name tag)

-- a dispatch is here that can't be sent again, and that the session takes at this reading
abbrev pub SendsHere : Option Kept → List Errand → (at now : ℕ) → Type 0
SendsHere s xs at now =
    (ticket : TicketView) × (ticket_at xs at ≡ Some ticket) × (ticket.left ≡ 0)
    × IsSomeAnd s (λ k. offer_refusal (figures_in k.state) now ≡ None)

-- what stands in the place of a value that a session was handed
abbrev pub after_note : Result (Option Recall) Placed → Errand
after_note (Ok (Some recall)) = recalling recall
after_note _ = done

abbrev pub after_settle : Result Answer Settled → Errand
after_settle (Ok (Again ticket)) = unsent ticket
after_settle _ = done

abbrev pub after_offer : ℕ → Result Placed (OfferRefusal × TicketView) → Errand
after_offer server (Ok placed) = placing placed
after_offer server (Err (refusal, ticket)) = refused server ticket

-- values of a batch that go to this client were handed to its session, one after another: each by the session's own
-- step, and what the step gave stands in its place. A slot with no session hands each back
pub data AnswersDown (client : ℕ) (s : Option KeptDown) (xs : List Errand) : Option KeptDown → List Errand → Type 0
  where
    none : AnswersDown client s xs s xs
    note : {t u : Option KeptDown} {ys zs : List Errand} (at : ℕ) (placed : Placed) (result : Result (Option Recall) Placed)
        → errand_at ys at ≡ record { to = client; value = value.Placed placed }
        → MakesDown t u (λ p q. NoteStep p placed result q) → (t ≡ None → result ≡ Err placed)
        → zs ≡ slice_set ys at (after_note result)
        → AnswersDown client s xs t ys → AnswersDown client s xs u zs
    settle : {t u : Option KeptDown} {ys zs : List Errand} (at : ℕ) (settled : Settled) (result : Result Answer Settled)
        → errand_at ys at ≡ record { to = client; value = value.Reply settled }
        → MakesDown t u (λ p q. SettleStep p settled result q) → (t ≡ None → result ≡ Err settled)
        → zs ≡ slice_set ys at (after_settle result)
        → AnswersDown client s xs t ys → AnswersDown client s xs u zs
    nack : {t u : Option KeptDown} {ys zs : List Errand} (at : ℕ) (ticket : TicketView)
        (result : Result Answer TicketView)
        → errand_at ys at ≡ record { to = client; value = value.Unplaced ticket }
        → MakesDown t u (λ p q. NackStep p ticket result q) → (t ≡ None → result ≡ Err ticket)
        → zs ≡ slice_set ys at done
        → AnswersDown client s xs t ys → AnswersDown client s xs u zs
    unroute : {t u : Option KeptDown} {ys zs : List Errand} (at : ℕ) (ticket : TicketView)
        (result : Result Answer TicketView)
        → errand_at ys at ≡ record { to = client; value = value.Unrouted ticket }
        → MakesDown t u (λ p q. UnrouteStep p ticket result q) → (t ≡ None → result ≡ Err ticket)
        → zs ≡ slice_set ys at done
        → AnswersDown client s xs t ys → AnswersDown client s xs u zs

-- the same of what goes to this server, offers and recalls at this reading
pub data ServesUp (now server : ℕ) (s : Option Kept) (xs : List Errand) : Option Kept → List Errand → Type 0 where
  none : ServesUp now server s xs s xs
  offer : {t u : Option Kept} {ys zs : List Errand} (at : ℕ) (ticket : TicketView)
      (result : Result Placed (OfferRefusal × TicketView))
      → errand_at ys at ≡ record { to = server; value = value.Ticket ticket }
      → Makes t u (λ p q. OfferStep p ticket now result q) → (t ≡ None → result ≡ Err (Closed, ticket))
      → zs ≡ slice_set ys at (after_offer server result)
      → ServesUp now server s xs t ys → ServesUp now server s xs u zs
  recall : {t u : Option Kept} {ys zs : List Errand} (at : ℕ) (r : Recall) (result : Recalled)
      → errand_at ys at ≡ record { to = server; value = value.Recall r }
      → Makes t u (λ p q. RecallStep p r now result q) → (t ≡ None → result ≡ Stale)
      → zs ≡ slice_set ys at done
      → ServesUp now server s xs t ys → ServesUp now server s xs u zs
