-- What a frame adds to the records of a session towards a client.
use Rattle.std.specs.Prelude.{◌≡◌, ℕ, List, Some, length}
use Rattle.mux_frame.specs.Spelling.{MuxFrame}
use Rattle.mux_history.specs.declared.record.Record.{Record}
use Rattle.mux_model.specs.Entries.{Exchange}
use Rattle.mux_model.specs.Steps.{FrameCall, Held, Recorded}
use Rattle.mux_model.specs.Down.{down}
use Rattle.server_session.specs.Past.{Past}

-- the record is one that a session towards a client writes down of this very frame
abbrev pub IsRecordOfDown : MuxFrame → Record → Type 0
IsRecordOfDown f r =
    (p : Past) × (now : ℕ) × (e : Exchange) × (gives : List Held)
    × (down p.session p.steps (length p.out) (FrameCall f now) ≡ Recorded e gives) × (e.rec ≡ Some r)
