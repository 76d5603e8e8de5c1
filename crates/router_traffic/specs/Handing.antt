-- What a reader hands in of what comes over its connection.
use Rattle.std.specs.Prelude.{◌≡◌, ℕ, Bool, true, false, List, [], ◌∷◌, ◌++◌, Option, Some, None, Result, Ok, Err}
use Rattle.mux_frame.specs.Views.{FrameView}

-- what a connection's session is asked of; its seat, once it is open; the frames that wait to be handed in; and whether
-- nothing more is handed in
pub record Inflow (H S : Type 0) : Type 0 where
  pub router : H
  pub seat : Option S
  pub waits : List FrameView
  pub is_over : Bool

-- the frames of a batch, if there is one
abbrev pub waits_in : Option (List FrameView) → List FrameView
waits_in None = []
waits_in (Some fs) = fs

-- the types of `runs`, and of `is_same` and `goes_on`, as a router's tasks see its sessions
abbrev pub Runs : Type 0 → Type 0 → Type 1
Runs H S = H → ℕ → List FrameView → List FrameView → S → S → Type 0

abbrev pub Steps : Type 0 → Type 0 → Type 1
Steps H S = H → S → S → Type 0

-- These frames came, one after another, behind those that waited. What waited was handed in from the front, by steps of
-- the seat's own session, and some of it was thrown away only where nothing more is handed in.
pub data HandsIn {H S : Type 0} (runs : Runs H S) (is_same goes_on : Steps H S) (a : Inflow H S) :
    List FrameView → Inflow H S → Type 0 where
  none : HandsIn runs is_same goes_on a [] a
  comes : {fs : List FrameView} {b : Inflow H S} → HandsIn runs is_same goes_on a fs b → (f : FrameView)
      → HandsIn runs is_same goes_on a (fs ++ f ∷ []) (record b { waits = b.waits ++ f ∷ [] })
  opens : {fs : List FrameView} {b : Inflow H S} → HandsIn runs is_same goes_on a fs b → b.seat ≡ None → (t : S)
      → HandsIn runs is_same goes_on a fs (record b { seat = Some t })
  goes : {fs : List FrameView} {b : Inflow H S} → HandsIn runs is_same goes_on a fs b → (s t : S) → b.seat ≡ Some s
      → goes_on b.router s t → HandsIn runs is_same goes_on a fs (record b { seat = Some t })
  run : {fs : List FrameView} {b : Inflow H S} → HandsIn runs is_same goes_on a fs b → b.is_over ≡ false → (s t : S)
      → b.seat ≡ Some s → (now : ℕ) (left : List FrameView) → runs b.router now b.waits left s t
      → is_same b.router s t → HandsIn runs is_same goes_on a fs (record b { seat = Some t; waits = left })
  ends : {fs : List FrameView} {b : Inflow H S} → HandsIn runs is_same goes_on a fs b → (lost left : List FrameView)
      → b.waits ≡ lost ++ left
      → HandsIn runs is_same goes_on a fs (record b { waits = left; is_over = true })

-- the frames that a call put behind the others
abbrev pub frames_put : {A : Type 0} → FrameView → Result A FrameView → List FrameView
frames_put f (Ok x) = f ∷ []
frames_put f (Err g) = []

-- a frame that came back stands in front of the others again
abbrev pub in_front : {H S : Type 0} → Option FrameView → Inflow H S → Inflow H S
in_front None a = a
in_front (Some f) a = record a { waits = f ∷ a.waits }
