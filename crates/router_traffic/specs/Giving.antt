-- What a writer gives its connection.
use Rattle.std.specs.Prelude.{◌≡◌, ℕ, List, [], ◌++◌}
use Rattle.mux_frame.specs.Views.{FrameView}
use Rattle.mux_history.specs.declared.session.SessionId.{SessionId}
use Rattle.hub.specs.Taking.{IsTakenOut}

-- calls of the hub, one after another, took these frames out of the session
pub data TakenOut (session : SessionId) : List FrameView → Type 0 where
  none : TakenOut session []
  more : {out : List FrameView} → TakenOut session out → (room : ℕ) (has : List FrameView) (came : ℕ)
      → IsTakenOut session [] room has came → TakenOut session (out ++ has)

-- each frame was in hand or was taken out of the session meanwhile, and each that was not given is in hand: all of
-- them once and in their order
pub record Gives (session : SessionId) (had given has : List FrameView) : Type 0 where
  pub out : List FrameView
  pub taken : TakenOut session out
  pub order : had ++ out ≡ given ++ has
