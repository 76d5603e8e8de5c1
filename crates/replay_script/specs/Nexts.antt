-- What a stream's next frame is, by what its codec gives of the bytes that wait.
use Rattle.std.specs.Prelude.{◌≡◌, ℕ, List, Bool, true, false, Result, Ok, Err}
use Rattle.tokio_util.specs.Codec.Next.{decoded, partial}
use Rattle.mux_frame.specs.Decoding.{gives_frames}
use Rattle.mux_frame.specs.Views.{FrameView, CodecView}
use Rattle.replay_script.specs.declared.stream.NoFrame.{NoFrame}
use Rattle.replay_script.specs.declared.stream.NoFrame.TheVariants.{Waits, Fault}

-- codec and bytes, what is told, and codec and bytes after it
abbrev pub Nexts : CodecView → List ℕ → Result FrameView NoFrame → CodecView → List ℕ → Type 0
Nexts c bytes (Ok f) d rest = gives_frames c bytes (decoded (Ok f) d rest)
Nexts c bytes (Err Waits) d rest = gives_frames c bytes partial × (d ≡ c) × (rest ≡ bytes)
Nexts c bytes (Err (Fault fault)) d rest = gives_frames c bytes (decoded (Err fault) d rest)

-- a fault is told
abbrev pub tells_fault : Result FrameView NoFrame → Bool
tells_fault (Err (Fault fault)) = true
tells_fault _ = false
