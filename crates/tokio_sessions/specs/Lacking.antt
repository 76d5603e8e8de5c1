-- What a whole frame needs besides the bytes that are there.
use Rattle.std.specs.Prelude.{ℕ, ◌-◌, List, [], ◌∷◌, length, Bool, false, nat_lt, Option, Some, None}
use Rattle.std.specs.Int.{w32, from_be_bytes}
use Rattle.mux_frame.specs.Views.{FrameView}

-- how many bytes the frame at the front lacks, once its size is there
abbrev pub lacking : List ℕ → Option ℕ
lacking (a ∷ b ∷ c ∷ d ∷ rest) = Some (from_be_bytes w32 (a ∷ b ∷ c ∷ d ∷ []) - length rest)
lacking (a ∷ b ∷ c ∷ []) = None
lacking (a ∷ b ∷ []) = None
lacking (a ∷ []) = None
lacking [] = None

-- whether a frame has begun of which bytes are to come, by what it lacks and how many bytes are there
abbrev pub has_begun_by : (lacks : Option ℕ) (there : ℕ) → Bool
has_begun_by None there = nat_lt 0 there
has_begun_by (Some bytes) there = nat_lt 0 bytes

-- the same of a session: not while a frame that was put off comes before it
abbrev pub is_midway_by : Option FrameView → (buffer : List ℕ) → Bool
is_midway_by None buffer = has_begun_by (lacking buffer) (length buffer)
is_midway_by (Some frame) buffer = false
