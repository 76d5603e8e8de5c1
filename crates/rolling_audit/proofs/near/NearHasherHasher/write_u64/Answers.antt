use Rattle.std.proofs.Common.{arith, rules}
use Rattle.rolling_audit.proofs.Fed.{fed_eight}
use Rattle.rolling_audit.proofs.near.NearHasherHasher.write_u64.Goals as goal

pub returns : goal.returns
returns c = rw (fed_eight 0 c.args.number (omega arith) c.ranges.number.fits) (search rules)
