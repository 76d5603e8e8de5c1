-- An outline behind a record that tells of one dispatch.
use Rattle.std.proofs.Common.{◌≡◌, true, arith}
use Rattle.mux_history.specs.declared.record.Record.{Record}
use Rattle.mux_agree.specs.declared.agreement.outline.Outline.{Outline}
use Rattle.mux_agree.specs.Outlines.{outline_after}
use Rattle.rolling_audit.specs.Sessions.{goes_on}

pub same_but_reading : (about r : Record) (o : Outline) → goes_on about r ≡ true → record o { reading = r.reading } ≡ outline_after about r o
same_but_reading about r o h = grind arith
