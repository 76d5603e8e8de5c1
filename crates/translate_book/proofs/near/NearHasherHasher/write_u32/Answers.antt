use Rattle.std.proofs.Common.{refl}
use Rattle.translate_book.proofs.Fed.{fed_four}
use Rattle.translate_book.proofs.near.NearHasherHasher.write_u32.Goals as goal

pub returns : goal.returns
returns c = rw (fed_four c.args.self.now.0 c.args.number c.ranges.number.fits) refl
