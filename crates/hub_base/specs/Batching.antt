-- A batch of frames, and the frame that comes back.
use Rattle.std.specs.Prelude.{ℕ, List, [], Option, Some, None}
use Rattle.mux_frame.specs.Views.{FrameView}
use Rattle.hub_base.specs.declared.errands.Errand.{Errand}
use Rattle.hub_base.specs.declared.fault.HubFault.{HubFault}
use Rattle.hub_base.specs.declared.fault.HubFault.TheVariants.{Session, GateShut, SeatFull}

-- the values in hand, each at its place, and for how many there is room
pub record Held : Type 0 where
  pub items : List Errand
  pub room : ℕ

-- a batch, as contracts see it
pub record Batched : Type 0 where
  -- the frames that were not taken yet, the next one first
  pub frames : List FrameView
  -- the values of steps that are still in hand, each at its place
  pub errands : List Errand
  -- for how many frames and values there is room
  pub room : ℕ

-- a batch with nothing in it
abbrev pub empty : (room : ℕ) → Batched
empty room = record { frames = []; errands = []; room = room }

-- the frame that a refused call hands back
abbrev pub handed_back : HubFault → Option FrameView
handed_back (Session refusal f) = Some f
handed_back (GateShut f) = Some f
handed_back (SeatFull f) = Some f
handed_back fault = None
