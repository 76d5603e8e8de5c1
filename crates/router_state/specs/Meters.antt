-- What is counted and measured.
use Rattle.std.specs.Prelude.{◌+◌, ◌^◌, ◌%◌, if◌then◌else◌, length}
use Rattle.mux_frame.specs.Spelling.{MuxFrame}
use Rattle.mux_message.specs.Kinds.{kind_of}
use Rattle.router_state.specs.declared.meter.Glance.{Glance}
use Rattle.router_state.specs.declared.meter.Tally.{Tally}
use Rattle.router_state.specs.Outcomes.{is_error, outcome_of}

-- what is counted of a frame: length, type and tag are eight bytes
abbrev pub glance_of : MuxFrame → Glance
glance_of f = record { kind = kind_of f.kind; tag = f.tag; outcome = outcome_of f; bytes = length f.body + 8 }

-- behind a frame that was handed over
abbrev pub counted : Glance → Tally → Tally
counted g t = record t { frames = (t.frames + 1) % 2 ^ 64; bytes = (t.bytes + g.bytes) % 2 ^ 64 }

-- behind a frame that was read
abbrev pub counted_read : Glance → Tally → Tally
counted_read g t = record (counted g t) { errors = if is_error g.outcome then (t.errors + 1) % 2 ^ 64 else t.errors }
