use Rattle.std.proofs.Common.{◌≡◌, take, fold}
use Rattle.rolling_audit.specs.Near.{next_of}
use Rattle.rolling_audit.proofs.near.NearHasherHasher.write.Given as goal

abbrev pub invariant-loop-b : goal.invariant-loop-b
invariant-loop-b l = l.number ≡ fold next_of 0 (take l.b-index l.bytes)
