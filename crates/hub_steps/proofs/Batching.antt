-- Steps of a batch, one after another.
use Rattle.std.proofs.Common.{ℕ, List, Option, [], ◌∷◌, ◌++◌, ◌≡◌, refl, sym, ◌∙◌, ap, append_assoc}
use Rattle.std.proofs.lemmas.List.{append-nil}
use Rattle.mux_frame.specs.Spelling.{MuxFrame}
use Rattle.mux_frame.specs.Views.{FrameView}
use Rattle.mux_history.specs.declared.record.Record.{Record}
use Rattle.kept_session.specs.Recorded.{IsRecordOf}
use Rattle.kept_session.specs.RecordedDown.{IsRecordOfDown}
use Rattle.hub_close.specs.declared.receipt.Stub.{Stub}
use Rattle.hub_close.specs.Receiving.{Receiving}
use Rattle.kept_session.specs.ReachedDown.{KeptDown}
use Rattle.kept_session.specs.Reached.{Kept}
use Rattle.hub_steps.specs.Batches.{AnswersDown, AreOf, ServesUp, StepsDown, StepsUp, TakesAllDown, TakesAllUp, TakesNextDown, TakesNextUp}
use Rattle.hub_steps.specs.Batches as batches
use Rattle.hub_base.specs.Batching.{Batched}
use Rattle.hub_base.specs.Errands.{of_down, of_up}
use Rattle.hub_base.specs.declared.errands.Errand.{Errand}

pub answers_on : (client : ℕ) (a b : Option KeptDown) (xs ms : List Errand) (c : Option KeptDown) (zs : List Errand) → AnswersDown client a xs b ms
    → AnswersDown client b ms c zs → AnswersDown client a xs c zs
answers_on client a b xs ms c zs p batches.AnswersDown.none = p
answers_on client a b xs ms c zs p (batches.AnswersDown.note {t} {ys} at placed result here step gone put q) =
    batches.AnswersDown.note at placed result here step gone put (answers_on client a b xs ms t ys p q)
answers_on client a b xs ms c zs p (batches.AnswersDown.settle {t} {ys} at settled result here step gone put q) =
    batches.AnswersDown.settle at settled result here step gone put (answers_on client a b xs ms t ys p q)
answers_on client a b xs ms c zs p (batches.AnswersDown.nack {t} {ys} at ticket result here step gone put q) =
    batches.AnswersDown.nack at ticket result here step gone put (answers_on client a b xs ms t ys p q)
answers_on client a b xs ms c zs p (batches.AnswersDown.unroute {t} {ys} at ticket result here step gone put q) =
    batches.AnswersDown.unroute at ticket result here step gone put (answers_on client a b xs ms t ys p q)

pub serves_on : (now server : ℕ) (a b : Option Kept) (xs ms : List Errand) (c : Option Kept) (zs : List Errand) → ServesUp now server a xs b ms
    → ServesUp now server b ms c zs → ServesUp now server a xs c zs
serves_on now server a b xs ms c zs p batches.ServesUp.none = p
serves_on now server a b xs ms c zs p (batches.ServesUp.offer {t} {ys} at ticket result here step gone put q) =
    batches.ServesUp.offer at ticket result here step gone put (serves_on now server a b xs ms t ys p q)
serves_on now server a b xs ms c zs p (batches.ServesUp.recall {t} {ys} at r result here step gone put q) =
    batches.ServesUp.recall at r result here step gone put (serves_on now server a b xs ms t ys p q)

pub are_more : (Of : MuxFrame → Record → Type 0) (fs : List FrameView) (rs : List Stub) (f : FrameView) (r : Stub)
    → AreOf Of fs rs → Of f.frame r.kept → AreOf Of (fs ++ f ∷ []) (rs ++ r ∷ [])
are_more Of [] [] f r all is = (is, tt)
are_more Of [] (x ∷ rs) f r all is = absurd all
are_more Of (g ∷ fs) [] f r all is = absurd all
are_more Of (g ∷ fs) (x ∷ rs) f r all is = (all.0, are_more Of fs rs f r all.1 is)

same_list : (x : Receiving) → x ≡ record x { list = x.list ++ [] }
same_list x = ap (λ (rs : List Stub). record x { list = rs }) (sym (append-nil x.list))

more_list : (x y z : Receiving) (rs : List Stub) (r : Stub) → y ≡ record x { list = x.list ++ rs } → z ≡ record y { list = y.list ++ r ∷ [] }
    → z ≡ record x { list = x.list ++ (rs ++ r ∷ []) }
more_list x y z rs r p q =
    q
    ∙ (ap (λ (w : Receiving). record w { list = w.list ++ r ∷ [] }) p
    ∙ ap (λ (xs : List Stub). record x { list = xs }) (append_assoc x.list rs (r ∷ [])))

more_frames : (before a b : List FrameView) (fs : List FrameView) (f : FrameView) → before ≡ fs ++ a → a ≡ f ∷ b → before ≡ (fs ++ f ∷ []) ++ b
more_frames before a b fs f p q = p ∙ (ap (λ xs. fs ++ xs) q ∙ sym (append_assoc fs (f ∷ []) b))

pub takes_none_down : (now : ℕ) (s : Option KeptDown) (b : Batched) (x : Receiving) → TakesAllDown now s s b b x x
takes_none_down now s b x = ([], [], [], refl, same_list x, sym (append-nil b.errands), tt, batches.StepsDown.none, refl)

pub takes_none_up : (now : ℕ) (s : Option Kept) (b : Batched) (x : Receiving) → TakesAllUp now s s b b x x
takes_none_up now s b x = ([], [], [], refl, same_list x, sym (append-nil b.errands), tt, batches.StepsUp.none, refl)

pub takes_more_down : (now : ℕ) (s t u : Option KeptDown) (a b c : Batched) (x y z : Receiving)
    → TakesAllDown now s t a b x y → TakesNextDown now t u b c y z → TakesAllDown now s u a c x z
takes_more_down now s t u a b c x y z p q = (
  p.0 ++ q.0 ∷ [],
  p.1 ++ q.1 ∷ [],
  p.2 ++ of_down q.2 ∷ [],
  more_frames a.frames b.frames c.frames p.0 q.0 p.3 q.3,
  more_list x y z p.1 q.1 p.4 q.4,
  q.7 ∙ ap (λ es. es ++ of_down q.2 ∷ []) p.5 ∙ append_assoc a.errands p.2 (of_down q.2 ∷ []),
  are_more IsRecordOfDown p.0 p.1 q.0 q.1 p.6 q.6,
  batches.StepsDown.next q.0 q.1 q.2 q.5 p.7,
  q.8 ∙ p.8,
)

pub takes_more_up : (now : ℕ) (s t u : Option Kept) (a b c : Batched) (x y z : Receiving)
    → TakesAllUp now s t a b x y → TakesNextUp now t u b c y z → TakesAllUp now s u a c x z
takes_more_up now s t u a b c x y z p q = (
  p.0 ++ q.0 ∷ [],
  p.1 ++ q.1 ∷ [],
  p.2 ++ of_up q.2 ∷ [],
  more_frames a.frames b.frames c.frames p.0 q.0 p.3 q.3,
  more_list x y z p.1 q.1 p.4 q.4,
  q.7 ∙ ap (λ es. es ++ of_up q.2 ∷ []) p.5 ∙ append_assoc a.errands p.2 (of_up q.2 ∷ []),
  are_more IsRecordOf p.0 p.1 q.0 q.1 p.6 q.6,
  batches.StepsUp.next q.0 q.1 q.2 q.5 p.7,
  q.8 ∙ p.8,
)
