use Rattle.std.proofs.Common.{◌≡◌, take, fold}
use Rattle.translate_book.specs.Near.{next_of}
use Rattle.translate_book.proofs.near.NearHasherHasher.write.Given as goal

abbrev pub invariant-loop-b : goal.invariant-loop-b
invariant-loop-b l = l.state ≡ fold next_of l.fn.self.0 (take l.b-index l.bytes)
