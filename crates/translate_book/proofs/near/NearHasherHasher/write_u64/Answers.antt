use Rattle.std.proofs.Common.{refl, rules}
use Rattle.translate_book.proofs.Fed.{fed_eight}
use Rattle.translate_book.proofs.near.NearHasherHasher.write_u64.Goals as goal

pub returns : goal.returns
returns c = rw (fed_eight c.args.self.now.0 c.args.number (search rules) c.ranges.number.fits) refl
