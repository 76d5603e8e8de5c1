use Rattle.mux_history.proofs.Unpacking.{unnamed}
use Rattle.mux_history.proofs.record.Record.new.Goals as goal

-- src/record.rt:67:17
pub invariant_of-result : goal.invariant_of-result
invariant_of-result c =
    unnamed c.args.kind c.args.tag c.args.reading c.of-shape.result c.numbers_of-first.result c.of-shape.ensures c.numbers_of-first.ensures.value c.numbers_of-first.ensures.fits
