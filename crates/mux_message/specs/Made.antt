-- The messages that the router makes, in their normal spelling.
use Rattle.std.specs.Prelude.{ℕ, ℤ, pos, negsuc, List, [], ◌∷◌, ◌/◌, ◌%◌, ◌==◌, ◌&&◌, Bool, codes}
use Rattle.std.specs.Str.{bytes_eq}
use Rattle.mux_frame.specs.Spelling.{MuxFrame}

abbrev pub frame_of : (kind : ℤ) (tag : ℕ) (body : List ℕ) → MuxFrame
frame_of kind tag body = record { kind = kind; tag = tag; body = body }

-- an Rdispatch with status 2 and no context
abbrev pub nack_on : ℕ → MuxFrame
nack_on t = frame_of (negsuc 1) t (2 ∷ 0 ∷ 0 ∷ [])

abbrev pub rerr_on : ℕ → List ℕ → MuxFrame
rerr_on t why = frame_of (negsuc 127) t why

abbrev pub rdiscarded_on : ℕ → MuxFrame
rdiscarded_on t = frame_of (negsuc 65) t []

abbrev pub rping_on : ℕ → MuxFrame
rping_on t = frame_of (negsuc 64) t []

abbrev pub rdrain_on : ℕ → MuxFrame
rdrain_on t = frame_of (negsuc 63) t []

-- version 1 and no header
abbrev pub rinit_on : ℕ → MuxFrame
rinit_on t = frame_of (negsuc 67) t (0 ∷ 1 ∷ [])

abbrev pub tdrain_on : ℕ → MuxFrame
tdrain_on t = frame_of (pos 64) t []

abbrev pub tping_on : ℕ → MuxFrame
tping_on t = frame_of (pos 65) t []

abbrev pub tinit_on : ℕ → MuxFrame
tinit_on t = frame_of (pos 68) t (0 ∷ 1 ∷ [])

-- the Tdiscarded of a tag goes on tag 0
abbrev pub tdiscarded_for : ℕ → List ℕ → MuxFrame
tdiscarded_for t why = frame_of (pos 66) 0 (t / 65536 ∷ t / 256 % 256 ∷ t % 256 ∷ why)

-- the text by which an end asks whether its peer knows of initiation
abbrev pub probe_text : List ℕ
probe_text = codes "tinit check"

-- the probe is an Rerr on tag 1 with this text; it has either type byte of an Rerr
abbrev pub probe_as : ℤ → MuxFrame
probe_as kind = frame_of kind 1 probe_text

abbrev pub probe : MuxFrame
probe = probe_as (negsuc 127)

-- an Rerr on this tag with this text is the probe
abbrev pub is_probe : (tag : ℕ) (why : List ℕ) → Bool
is_probe tag why = tag == 1 && bytes_eq why probe_text

-- a message with its tag alone replaced
abbrev pub retag : ℕ → MuxFrame → MuxFrame
retag t f = record f { tag = t }
