-- Frames that pass a sink or a source.
use Rattle.std.specs.Prelude.{◌≡◌, ◌<◌, ◌≤◌, ℕ, Bool, true, false, List, [], ◌∷◌, ◌++◌, ◌&&◌, length, flat_map, nat_lt, All, ⊤, Option, Some, None}
use Rattle.futures.specs.declared.task.Poll.{Poll}
use Rattle.futures.specs.declared.task.Poll.TheVariants.{Ready, Pending}
use Rattle.mux_frame.specs.Views.{FrameView}
use Rattle.mux_frame.specs.Spelling.{size_of, spelling}
use Rattle.tokio_sessions.specs.declared.step.Step.{Step}
use Rattle.tokio_sessions.specs.declared.step.Step.TheVariants.{Again, Wait, Over}
use Rattle.tokio_sessions.specs.declared.outlet.Wrote.{Wrote}
use Rattle.tokio_sessions.specs.declared.outlet.Wrote.TheVariants.{Waits, Count, Failed}
use Rattle.tokio_sessions.specs.declared.sink.Offered.{Offered}
use Rattle.tokio_sessions.specs.declared.sink.Offered.TheVariants.{Taken, Later, Stop}

-- the type of `takes` and of `gives`: a state, the frames that passed, and the state after
abbrev pub Hands : Type 0 → Type 1
Hands S = S → List FrameView → S → Type 0

-- the bytes of frames, one after the other
abbrev pub spelled : List FrameView → List ℕ
spelled fs = flat_map (λ f. spelling f.frame) fs

-- A sink took so many frames at once, each within the limit, and they were cut off the front of these bytes.
pub record TakesRun {S : Type 0} (takes : Hands S) (max count : ℕ) (old : S) (bytes : List ℕ) (new : S)
    (rest : List ℕ) : Type 0 where
  pub frames : List FrameView
  pub taken : takes old frames new
  pub within : All (λ f. (f.as_read ≡ true) × (size_of f.frame ≤ max)) frames
  pub cut : bytes ≡ spelled frames ++ rest
  pub counted : length frames ≡ count

-- A source gave so many frames at once, and their bytes joined those that were there.
pub record GivesRun {S : Type 0} (gives : Hands S) (count : ℕ) (old : S) (bytes : List ℕ) (new : S)
    (all : List ℕ) : Type 0 where
  pub frames : List FrameView
  pub given : gives old frames new
  pub joined : all ≡ bytes ++ spelled frames
  pub counted : length frames ≡ count

-- the frames that a call took
abbrev pub frames_taken : FrameView → Offered → List FrameView
frames_taken f Taken = f ∷ []
frames_taken f (Later g) = []
frames_taken f Stop = []

-- a frame that is put off is the frame that was offered
abbrev pub HandsBack : FrameView → Offered → Type 0
HandsBack f Taken = ⊤
HandsBack f (Later g) = g ≡ f
HandsBack f Stop = ⊤

abbrev pub OnLater : Offered → Type 0 → Type 0
OnLater Taken P = ⊤
OnLater (Later g) P = P
OnLater Stop P = ⊤

abbrev pub OnStop : Offered → Type 0 → Type 0
OnStop Taken P = ⊤
OnStop (Later g) P = ⊤
OnStop Stop P = P

abbrev pub is_stop : Offered → Bool
is_stop Taken = false
is_stop (Later g) = false
is_stop Stop = true

-- how many bytes a write took
abbrev pub count_wrote : Wrote → ℕ
count_wrote Waits = 0
count_wrote (Count n) = n
count_wrote Failed = 0

abbrev pub is_failed : Wrote → Bool
is_failed Waits = false
is_failed (Count n) = false
is_failed Failed = true

abbrev pub OnWaits : Wrote → Type 0 → Type 0
OnWaits Waits P = P
OnWaits (Count n) P = ⊤
OnWaits Failed P = ⊤

abbrev pub OnFailed : Wrote → Type 0 → Type 0
OnFailed Waits P = ⊤
OnFailed (Count n) P = ⊤
OnFailed Failed P = P

-- the frames that a call gave
abbrev pub frames_given : Poll (Option FrameView) → List FrameView
frames_given (Ready (Some f)) = f ∷ []
frames_given (Ready None) = []
frames_given Pending = []

-- P of the frame that a call gave
abbrev pub IfGiven : Poll (Option FrameView) → (FrameView → Type 0) → Type 0
IfGiven (Ready (Some f)) P = P f
IfGiven (Ready None) P = ⊤
IfGiven Pending P = ⊤

-- P, where the call answers that no frame is to come
abbrev pub OnEnd : Poll (Option FrameView) → Type 0 → Type 0
OnEnd (Ready (Some f)) P = ⊤
OnEnd (Ready None) P = P
OnEnd Pending P = ⊤

-- P, where a turn waits
abbrev pub OnWait : {E : Type 0} → Step E → Type 0 → Type 0
OnWait Again P = ⊤
OnWait Wait P = P
OnWait (Over end) P = ⊤

-- P, where a turn leads to another poll or turn
abbrev pub OnGoing : {E : Type 0} → Step E → Type 0 → Type 0
OnGoing Again P = P
OnGoing Wait P = P
OnGoing (Over end) P = ⊤

-- no frame, or first of all one that is too large
abbrev pub HasNoNext : List FrameView → Type 0
HasNoNext [] = ⊤
HasNoNext (f ∷ fs) = 16777216 < size_of f.frame

-- no frame, or first of all one that is not held as a decoder gives it or has a body of this size and above
abbrev pub HasNoSmall : ℕ → List FrameView → Type 0
HasNoSmall size [] = ⊤
HasNoSmall size (f ∷ fs) = f.as_read && nat_lt (length f.frame.body) size ≡ false
