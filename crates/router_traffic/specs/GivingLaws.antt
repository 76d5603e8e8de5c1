-- Frames that are given one after another.
use Rattle.std.proofs.Common.{◌≡◌, ℕ, List, [], ◌∷◌, ◌++◌, Option, Some, None, IfSome, IfNone, sym, ap, subst, ◌∙◌, append-nil, append_assoc}
use Rattle.futures.specs.declared.task.Poll.TheVariants.{Ready}
use Rattle.mux_frame.specs.Views.{FrameView}
use Rattle.mux_history.specs.declared.session.SessionId.{SessionId}
use Rattle.hub.specs.Taking.{IsTakenOut}
use Rattle.tokio_sessions.specs.Passing.{HasNoNext, frames_given}
use Rattle.router_traffic.specs.Giving.{Gives, TakenOut}
use Rattle.router_traffic.specs.Giving.TakenOut.{none, more}

taken_then : {session : SessionId} (xs : List FrameView) {ys : List FrameView} → TakenOut session xs → TakenOut session ys
    → TakenOut session (xs ++ ys)
taken_then {session = session} xs p none = subst (λ zs. TakenOut session zs) (sym (append-nil xs)) p
taken_then {session = session} xs p (more {out = out} q room has came out_of) =
    subst (λ zs. TakenOut session zs) (append_assoc xs out has) (more (taken_then xs p q) room has came out_of)

pub gives_none : (session : SessionId) (has : List FrameView) → Gives session has [] has
gives_none session has = record { out = []; taken = none; order = append-nil has }

pub gives_then : {session : SessionId} (a xs b ys c : List FrameView) → Gives session a xs b → Gives session b ys c
    → Gives session a (xs ++ ys) c
gives_then a xs b ys c p q = record {
  out = p.out ++ q.out;
  taken = taken_then p.out p.taken q.taken;
  order = sym (append_assoc a p.out q.out) ∙ ap (λ zs. zs ++ q.out) p.order ∙ append_assoc xs b q.out
      ∙ ap (λ zs. xs ++ zs) q.order ∙ sym (append_assoc xs ys c);
}

-- what was in hand is given
pub gives_front : (session : SessionId) (had given has : List FrameView) → had ≡ given ++ has
    → Gives session had given has
gives_front session had given has is = record { out = []; taken = none; order = append-nil had ∙ is }

-- what a call took out into an emptied deque is in hand
pub gives_out : {session : SessionId} (room came : ℕ) (had emptied has : List FrameView) → had ≡ [] → emptied ≡ had
    → IsTakenOut session emptied room has came → Gives session had [] has
gives_out {session = session} room came had emptied has none_had same out_of = record {
  out = has;
  taken = more none room has came (subst (λ fs. IsTakenOut session fs room has came) (same ∙ none_had) out_of);
  order = ap (λ zs. zs ++ has) none_had;
}

-- the first frame of what is in hand is given, or none
pub gives_first : {session : SessionId} (had hand has : List FrameView) (given : Option FrameView) → Gives session had [] hand
    → IfSome given (λ f. hand ≡ f ∷ has) → IfNone given ((has ≡ hand) × HasNoNext has)
    → Gives session had (frames_given (Ready given)) has
gives_first had hand has (Some f) gives front left =
    gives_then had [] hand (f ∷ []) has gives (gives_front _ hand (f ∷ []) has front)
gives_first {session = session} had hand has None gives front left =
    subst (λ fs. Gives session had [] fs) (sym left.0) gives

-- the same of two states that speak of one session
pub gives_later : (s t u : SessionId) (a xs b ys c : List FrameView) → (t ≡ s) × Gives s a xs b → (u ≡ t) × Gives t b ys c
    → (u ≡ s) × Gives s a (xs ++ ys) c
gives_later s t u a xs b ys c p q =
    (q.0 ∙ p.0, gives_then a xs b ys c p.1 (subst (λ (x : SessionId). Gives x b ys c) p.0 q.1))
