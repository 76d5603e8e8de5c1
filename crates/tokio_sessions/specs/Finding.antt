-- What a reader finds at the front of the bytes that it has.
use Rattle.std.specs.Prelude.{◌≡◌, ℕ, List, Option, Result, Ok, Err}
use Rattle.mux_frame.specs.declared.fault.FrameFault.{FrameFault}
use Rattle.mux_frame.specs.declared.fault.FrameFault.TheVariants.{TooLarge, TooShort, Truncated, Read, Memory}
use Rattle.mux_frame.specs.Views.{FrameView}
use Rattle.mux_frame.specs.Decoding.{Shows}
use Rattle.mux_frame.specs.Steps.{Finds}

-- the frame or the fault that stands there, unless memory was refused
abbrev pub FindsNext : ℕ → List ℕ → Result (Option FrameView) FrameFault → List ℕ → Type 0
FindsNext max xs (Ok found) ys = Finds max xs (Ok found) ys
FindsNext max xs (Err Memory) ys = ys ≡ xs
FindsNext max xs (Err TooLarge) ys = (ys ≡ xs) × Shows max xs TooLarge
FindsNext max xs (Err TooShort) ys = (ys ≡ xs) × Shows max xs TooShort
FindsNext max xs (Err Truncated) ys = ⊥
FindsNext max xs (Err Read) ys = ⊥
